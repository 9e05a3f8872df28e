-- A state between calls at a stage that draws can be drawn from; and a draw passes the second palette by. Assumes nothing.
use Prim.Native.Nat.{ℕ, ◌+◌, ◌*◌, ◌≤◌}
use mathlib.Core.Path.{◌≡◌, ap}
use mathlib.Core.Bool.{Bool, true}
use mathlib.Core.List.{List}
use native.Mathlib.Nat.{mul-le-mul, div-le_of_le-mul, lt_of_le_of_lt}
use native.Mathlib.Omega.{arith}
use lib.Dec.{lit<}
use lib.Ieee.{Float}
use Rattle.job.specs.Gives.{Sampled}
use Rattle.quantizer.specs.Course.{Course, b}
use Rattle.run_stages.specs.declared.Record.{Record}
use Rattle.run_stages.specs.State.{State, state_with, draws}
use Rattle.run_stages.specs.Stages.{subs_of, have_of, alpha_of, draw, draw_with}
use Rattle.run_calls.specs.Place.{Placed, Rests, seeding, growing, replacing, reducing, finishing, over}
use Rattle.run_calls.proofs.Place.{some_left}
use Rattle.run_calls.proofs.Settling.{made-few}
use Rattle.run_calls.proofs.Presence.{draw-shown}
use Rattle.run_calls.specs.Sound.{Sound}
use Rattle.run_draw.specs.Drawable.{Drawable}

-- the state with another second palette
pub draw_beside : (K : Course) (o h : List ℕ) (p l q : List Float) (r : Record) (o2 h2 : List ℕ) (p2 : List Float) (r2 : Record)
    → state_with o2 h2 p2 q r2 ≡ draw K (state_with o h p q r) → state_with o2 h2 p2 l r2 ≡ draw K (state_with o h p l r)
unfolding draw draw_with subs_of have_of alpha_of
draw_beside K o h p l q r o2 h2 p2 r2 e =
    ap (λ (s : State). state_with s.order s.hints s.palette l s.rec) e

-- ---- a place has few rounds finished and few draws made
module _ (K : Course) (few : K.job.S ≤ 16) (cap : K.job.C ≤ 16) (short : K.n ≤ 16384) (s : State) where
  tenth : b K ≤ 1639
  tenth = div-le_of_le-mul 10 (omega arith)

  product : (x : ℕ) → x ≤ 50 → x * b K ≤ 81950
  product x h = mul-le-mul h tenth

  pub few-rounds : Placed K s → s.rec.rounds ≤ 16
  few-rounds (seeding k r l e) = omega arith
  few-rounds (growing k r l e) = omega arith
  few-rounds (replacing k r l e) = omega arith
  few-rounds (reducing k r l e) = omega arith
  few-rounds (finishing k r l e) = omega arith
  few-rounds (over k past r l e) = omega arith

  pub few-made : Placed K s → s.rec.made ≤ 81950
  few-made p = omega (arith, made-few K s p, product (K.job.S + K.job.C + 18) (omega arith))

-- what a draw asks holds between calls
pub drawable : (K : Course) (room : Bool) → Sampled K.job K.n K.samples room → (s : State) → Rests K s → Sound K s → draws s.rec.stage ≡ true → Drawable K s
drawable K room D s R A t =
    let few = D.ready.sizes.few in
    let cap = D.ready.sizes.cap in
    record {
      going = record {
        sampling = record { room = room; passed = D };
        shown = draw-shown K D.ready s R.place A.held.size A.held.bound;
        each = A.hints;
        all = A.dealt.size;
        below = λ j l. A.dealt.below j (omega (arith, A.dealt.size));
        few = let m = few-made K few cap D.few s R.place in lt_of_le_of_lt (omega arith) (lit< {m = 81951} tt);
      };
      few = few-rounds K few cap D.few s R.place;
      left = some_left K s R t;
    }
