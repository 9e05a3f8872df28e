-- How what `train` writes stands in the bytes lent. Assumes nothing.
use mathlib.Core.Path.{◌≡◌}
use Prim.Native.Nat.{ℕ, ◌≤◌, ◌<◌}
use mathlib.Core.List.{List}
use lib.ListN.{length}
use Rattle.fit_lines.specs.Lines.{Stored}
use Rattle.sheet_parts.proofs.Texts as texts
use Rattle.answer.specs.Outcome.{outcome}
use Rattle.train_text.specs.Train.{train_text, train_def}

pub no_place : (b found : List ℕ) → length found < 65536 → outcome 0 found ≡ train_def b found
no_place b found h = texts.no_place 65536 (train_text b) found h

pub printed : (b found out : List ℕ) (n : ℕ) → 65536 ≤ length found → Stored found out 0 n (train_text b) → outcome n out ≡ train_def b found
printed b found out n h s = texts.in_place 65536 (train_text b) found out n h s
