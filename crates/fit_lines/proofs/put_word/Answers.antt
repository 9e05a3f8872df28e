-- `put_word` meets its contract: a word's bytes, copied into their place. Assumes nothing.
use mathlib.Core.Path.{◌≡◌, refl, sym, ◌∙◌}
use Prim.Native.Nat.{ℕ, ◌+◌, ◌-◌, ◌≤◌}
use native.Mathlib.Omega.{arith}
use Rattle.std.proofs.Common.{append_assoc}
use mathlib.Core.List.{List, ◌++◌}
use lib.ListN.{length, take, drop}
use lib.Seq.{sets, sets-eq, drop-drop}
use Rattle.fit_lines.proofs.put_word.Goals as goal

-- a word written into its place, as the list before it, the word and the list behind it
placed : (w l : List ℕ) (at : ℕ) → at + length w ≤ length l → take at l ++ (w ++ drop (at + length w) l) ≡ sets l at w
placed w l at h = sym (sets-eq w l at h ∙ append_assoc (take at l) w (drop (at + length w) l))

pub returns : goal.returns
returns c =
    let a = c.args in
    let k : a.at + length a.word.now - a.at ≡ length a.word.now = omega arith in
    record {
      text = rw (k, c.copy_from_slice.ensures.after, drop-drop (length a.word.now) a.at a.out.now) (placed a.word.now a.out.now a.at (omega arith));
      place = refl;
    }
