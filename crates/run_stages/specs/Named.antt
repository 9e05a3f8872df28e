-- The stages by name, and the numbers that stand for them. Definitions only. Assumes nothing.
use Rattle.std.specs.Prelude.{ℕ, ◌<◌, ◌≡◌, Result, MatchResult}
use Rattle.run_stages.specs.declared.Stage.{Stage}
use Rattle.run_stages.specs.declared.Stage.TheVariants.{Seeding, Growing, Replacing, Reducing, FinalDraws, Refining, Refined, Finished}
use Rattle.run_stages.specs.declared.NoStage.{NoStage}

abbrev pub number_of : Stage → ℕ
number_of Seeding = 0
number_of Growing = 1
number_of Replacing = 2
number_of Reducing = 3
number_of FinalDraws = 4
number_of Refining = 5
number_of Refined = 6
number_of Finished = 7

-- the stage with this number, or the number where no stage has it
abbrev pub Names : ℕ → Result Stage NoStage → Type 0
Names k r = MatchResult r (λ stage. number_of stage ≡ k) (λ e. (e.0 ≡ k) × (7 < k))
