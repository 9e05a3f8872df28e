-- The file of a job is as long with every palette, and the writer stores it. Assumes nothing.
use Prim.Native.Nat.{ℕ, ◌≤◌}
use mathlib.Core.Path.{◌≡◌, sym, ap, ◌∙◌}
use native.Mathlib.Omega.{arith}
use mathlib.Core.Bool.{true}
use mathlib.Core.List.{List}
use lib.ListN.{length}
use lib.Seq.{sets}
use lib.Ieee.{Float}
use Rattle.answer.specs.Refusals.{by_number}
use Rattle.answer.specs.Outcome.{Outcome, outcome}
use Rattle.answer.proofs.Outcomes.{decided-done}
use Rattle.job.specs.Job.{Job}
use Rattle.job.specs.Checks.{plain_answer}
use Rattle.job.proofs.Ready.{plain_ready}
use Rattle.sheet_format.specs.Sheet.{edition_of}
use Rattle.sheet.proofs.Files.{file_long, stored_in-place}
use Rattle.std.specs.Prelude.{Result, Ok, Err}
use Rattle.std.specs.Result.{result_unwrap_or}
use Rattle.answer.specs.declared.Refusal.{Refusal}
use Rattle.sheet.specs.Sheets.{Writing, file_of, write_def}
use Rattle.sheet_parts.specs.Front.{Writable}
use Rattle.fit_lines.specs.Lines.{Stored}

-- the file of a job is as long with every palette
pub same-long : (J : Job) (p q : List Float) → (plain_answer J p true).number ≡ 0 → (plain_answer J q true).number ≡ 0
    → length (file_of J q) ≡ length (file_of J p)
same-long J p q h g =
    let P = plain_ready J p true h in
    let Q = plain_ready J q true g in
    file_long (edition_of J.size) J Q.ready q Q.lent ∙ sym (file_long (edition_of J.size) J P.ready p P.lent)

-- a palette that passes can be written where another could
pub still_writable : (J : Job) (p q : List Float) → Writable J p → (plain_answer J q true).number ≡ 0 → Writable J q
still_writable J p q W h = record { passed = h; small = omega (arith, same-long J p q W.passed h, W.small) }

-- ---- the writer
module _ (J : Job) (p : List Float) (out : List ℕ) (W : Writable J p) (room : 65536 ≤ length out) where
  abbrev file : List ℕ
  file = file_of J p

  by_writer : write_def J p out ≡ outcome (Ok (length file)) (sets out 0 file)
  unfolding write_def
  by_writer = decided-done (plain_answer J p true) _ _ out W.passed ∙ stored_in-place file out W.small (omega (arith, W.small))

  module _ (r : Result ℕ Refusal) (after : List ℕ) (e : outcome (by_number r) after ≡ write_def J p out) where
    answer : by_number r ≡ Ok (length file)
    answer = ap (λ (o : Outcome Writing (List ℕ)). o.answer) (e ∙ by_writer)

    -- the writer refuses none, and says how many bytes there are
    pub number : result_unwrap_or r 0 ≡ length file
    number = by r answer
      where
        by : (x : Result ℕ Refusal) → by_number x ≡ Ok (length file) → result_unwrap_or x 0 ≡ length file
        by (Ok n) f = cc
        by (Err y) f = let z : ◌≡◌ {A = ℕ} 0 1 = cc in omega arith

    pub file_stored : (n : ℕ) → n ≡ result_unwrap_or r 0 → Stored out after 0 n file
    file_stored n f = record { text = ap (λ (o : Outcome Writing (List ℕ)). o.after) (e ∙ by_writer); place = omega (arith, f, number) }

    pub file_short : (n : ℕ) → n ≡ result_unwrap_or r 0 → n ≤ 65536
    file_short n f = omega (arith, f, number, W.small)
