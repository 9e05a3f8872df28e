-- Which colour the refusal of a run's call names. Definitions only. Assumes nothing.
use Rattle.std.specs.Prelude.{ℕ, ◌*◌, List, Float}
use Rattle.answer.specs.Names.{Table, never}
use Rattle.job.specs.Job.{two}
use Rattle.job.specs.Bad.{FirstBad, FirstOfBoth, sampled_names}
use Rattle.quantizer.specs.Course.{Course}
use Rattle.run_stages.specs.State.{State}
use Rattle.run_stages.specs.Record.{four, looked_at}
use Rattle.run_stages.specs.Calls.{Memory, state_of}

-- the first bad working colour: one of the palette, or where all of that is good one of what is looked at of the second, counted from S·C
abbrev pub FirstWorking : Course → State → ℕ → Type 0
FirstWorking K s = FirstOfBoth four (K.job.S * K.job.C) s.palette (looked_at s.rec.stage s.least)

-- ---- start gives neither 16 nor 17; advance and result give no 17
abbrev pub start_names : Course → Table
start_names K = sampled_names K.job never never

abbrev pub run_names : Course → Memory → Table
run_names K m = sampled_names K.job (FirstWorking K (state_of m)) never

abbrev pub hand_in_names : Course → Memory → List Float → Table
hand_in_names K m reduced = sampled_names K.job (FirstWorking K (state_of m)) (FirstBad two reduced)
