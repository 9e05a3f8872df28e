-- The draws that a place implies, and that no sum of theirs wraps. Assumes nothing.
use Prim.Native.Nat.{ℕ, ◌+◌, ◌-◌, ◌*◌, ◌/◌, ◌≤◌, ◌<◌}
use mathlib.Core.Path.{◌≡◌, refl, ap}
use mathlib.Core.Bool.{Bool, true, false, cond, ◌&&◌}
use native.Mathlib.Omega.{arith}
use lib.Dec.{eqb, leb, ltb}
use mir.Val.{Fits}
use mir.Syntax.{w64}
use mir.Facts.{Fits-le, Fits-lit}
use borrow.Author.Tests.{leb-true, ltb-true}
use Rattle.lists.proofs.Tests.{and_l, and_r}
use Rattle.job.specs.declared.Sizes.{Sizes}
use Rattle.quantizer.specs.Course.{Course, b}
use Rattle.run_stages.specs.declared.Line.{Line}
use Rattle.run_stages.specs.State.{draws, beside}
use Rattle.run_stages.specs.Record.{stage_of, place_fits, made_by}
use Rattle.run_record.specs.Sized.{plain, Sized}
use Rattle.run_record.proofs.Lines.{tenths-small}

-- ---- a place that fits
module _ (K : Course) (k r l : ℕ) where
  module _ (fits : place_fits K k r l ≡ true) (d : Bool) (e : d ≡ draws k) (y : d ≡ true) where
    drawing : ltb r (stage_of K k).rounds && (leb 1 l && leb l (stage_of K k).each) ≡ true
    unfolding place_fits
    drawing = rw (← e, y) at (and_r (leb k 7) _ fits)

    pub rounds-below : r < (stage_of K k).rounds
    rounds-below = ltb-true r (stage_of K k).rounds (and_l (ltb r (stage_of K k).rounds) _ drawing)

    pub left-within : l ≤ (stage_of K k).each
    left-within = leb-true l (stage_of K k).each (and_r (leb 1 l) _ (and_r (ltb r (stage_of K k).rounds) _ drawing))

  -- ---- word 4
  pub made_quiet : (d : Bool) → d ≡ draws k → d ≡ false → (line : Line) → line ≡ stage_of K k → line.before ≡ made_by K k r l
  unfolding made_by
  made_quiet d e y line h = rw (← e, y) (ap (λ (x : Line). x.before) h)

  pub made_drawing : (d : Bool) → d ≡ draws k → d ≡ true → (line : Line) → line ≡ stage_of K k → (t : ℕ) → t ≡ b K → line.before + r * t + (line.each - l) ≡ made_by K k r l
  unfolding made_by
  made_drawing d e y line h t f = rw (← e, y, ← h, f)

-- ---- bounds of a stage's line
pub record Small (line : Line) : Type 0 where
  pub rounds : line.rounds ≤ 16
  pub each : line.each ≤ 16390
  pub before : line.before ≤ 81950

module _ (z : Sizes) (Z : Sized z) where
  tenths : (x : ℕ) → x ≤ 50 → x * (z.n / 10) ≤ 81950
  tenths = tenths-small z.n (z.n / 10) refl Z.short

  one : z.n / 10 ≤ 1639
  one = let few : 50 * (z.n / 10) ≤ 81950 = tenths 50 (omega arith) in omega arith

  pub line_small : (k : ℕ) → Small (stage_of (plain z) k)
  unfolding stage_of beside
  line_small k = by (eqb k 0) (eqb k 1) (eqb k 2) (eqb k 3) (eqb k 4)
    where
      by : (t0 t1 t2 t3 t4 : Bool)
          → Small (cond t0 (record { rounds = z.s - 1; each = z.n / 10; before = 0 })
          (cond t1 (record { rounds = z.c - 1; each = z.n / 10; before = (z.s - 1) * (z.n / 10) })
          (cond t2 (record { rounds = 10; each = z.n / 10; before = (z.s - 1 + (z.c - 1)) * (z.n / 10) })
          (cond t3 (record { rounds = 0; each = 0; before = (z.s + z.c + 8) * (z.n / 10) })
          (cond t4 (record { rounds = 1; each = 10 * (z.n / 10); before = (z.s + z.c + 8) * (z.n / 10) })
          (record { rounds = 0; each = 0; before = (z.s + z.c + 18) * (z.n / 10) }))))))
      by true t1 t2 t3 t4 = record { rounds = omega (arith, Z.range.few); each = omega (arith, one); before = omega arith }
      by false true t2 t3 t4 = record { rounds = omega (arith, Z.range.cap); each = omega (arith, one); before = tenths (z.s - 1) (omega (arith, Z.range.few)) }
      by false false true t3 t4 = record { rounds = omega arith; each = omega (arith, one); before = tenths (z.s - 1 + (z.c - 1)) (omega (arith, Z.range.few, Z.range.cap)) }
      by false false false true t4 = record { rounds = omega arith; each = omega arith; before = tenths (z.s + z.c + 8) (omega (arith, Z.range.few, Z.range.cap)) }
      by false false false false true = record { rounds = omega arith; each = omega (arith, one); before = tenths (z.s + z.c + 8) (omega (arith, Z.range.few, Z.range.cap)) }
      by false false false false false = record { rounds = omega arith; each = omega arith; before = tenths (z.s + z.c + 18) (omega (arith, Z.range.few, Z.range.cap)) }

  -- what the code holds at a place of a stage that draws
  module _ (k r l : ℕ) (fits : place_fits (plain z) k r l ≡ true) (d : Bool) (e : d ≡ draws k) (y : d ≡ true) (line : Line) (h : line ≡ stage_of (plain z) k) where
    pub few-rounds : r ≤ 16
    few-rounds = omega (arith, rounds-below (plain z) k r l fits d e y, (line_small k).rounds)

    pub early : line.before ≤ 81950
    early = rw h (line_small k).before

    pub left_in : l ≤ line.each
    left_in = rw h (left-within (plain z) k r l fits d e y)

    pub rest-small : line.each - l ≤ 16390
    rest-small = let each : line.each ≤ 16390 = rw h (line_small k).each in omega arith

  -- ---- no sum wraps
  module _ (t : ℕ) (e : t ≡ z.n / 10) (r : ℕ) (few : r ≤ 16) where
    turns : r * t ≤ 81950
    turns = tenths-small z.n t e Z.short r (omega arith)

    pub turns_fit : Fits w64 (r * t)
    turns_fit = Fits-le turns (Fits-lit {n = 81950} tt)

    module _ (before : ℕ) (early : before ≤ 81950) where
      pub sum_fits : Fits w64 (before + r * t)
      sum_fits = Fits-le (omega (arith, turns)) (Fits-lit {n = 163900} tt)

      pub all-fits : (x : ℕ) → x ≤ 16390 → Fits w64 (before + r * t + x)
      all-fits x h = Fits-le (omega (arith, turns)) (Fits-lit {n = 180290} tt)
