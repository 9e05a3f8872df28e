-- What a round's end asks holds where a round is to be closed; and the settling loop goes on, or is done. Assumes nothing.
use Prim.Native.Nat.{◌≤◌, ◌<◌}
use mathlib.Core.Path.{◌≡◌, refl, sym, ap, subst⁻¹, ◌∙◌}
use mathlib.Core.Bool.{true, false, true≢false}
use mathlib.Core.List.{[]}
use native.Mathlib.Omega.{arith}
use Rattle.lists.proofs.Tests.{and_l}
use Rattle.quantizer.specs.Course.{Course, course}
use Rattle.run_stages.specs.State.{State, draws}
use Rattle.run_stages.specs.Stages.{finish_round, due, settle}
use Rattle.run_calls.proofs.Cases.{stage0, stage1, stage2, stage4}
use Rattle.run_calls.specs.Place.{Placed, seeding, growing, replacing, reducing, finishing, over}
use Rattle.run_calls.proofs.Place.{quiet, togo}
use Rattle.run_calls.proofs.Settling.{settle-done, settle-more, finish_placed, togo_less}
use Rattle.run_calls.specs.Sound.{Second, in2, out2}
use Rattle.run_calls.proofs.Sound.{all_shown, finish_sound}
use Rattle.run_round.specs.Settles.{Standing, Ripe, seeds, grows, replaces, finishes, Closing}
use Rattle.run_round.proofs.Orders.{ordered, seeding_any, growing_any, replacing_any, final_any}

module _ (K : Course) (s : State) (A : Standing K s) (d : due s ≡ true) where
  drawing : draws s.rec.stage ≡ true
  drawing = and_l (draws s.rec.stage) _ d

  ripe : Placed K s → Ripe K.job s.rec
  ripe (seeding q l m e) = seeds q (omega arith)
  ripe (growing q l m e) = grows q (omega arith)
  ripe (replacing q l m e) = replaces q (low A.sound.second)
    where
      low : Second K s.rec.stage s.rec.error s.least → s.rec.error < 0x7f800000
      low (in2 z b f) = b
      low (out2 z b) = absurd (z q)
  ripe (reducing q l m e) = absurd (true≢false (sym drawing ∙ ap draws q))
  ripe (finishing q l m e) = finishes q
  ripe (over q past l m e) = absurd (true≢false (sym drawing ∙ quiet s.rec.stage q))

  few : Placed K s → s.rec.rounds ≤ 16
  few (seeding q l m e) = omega (arith, A.ready.sizes.few)
  few (growing q l m e) = omega (arith, A.ready.sizes.cap)
  few (replacing q l m e) = omega arith
  few (reducing q l m e) = omega arith
  few (finishing q l m e) = omega arith
  few (over q past l m e) = omega arith

  pub to_close : Closing K.job s.hints s.palette s.least s.rec
  to_close =
      record {
        lent = record {
          whole = record {
            shown = all_shown K A.ready s.palette A.sound.held;
            each = A.sound.hints;
          };
          room = A.sound.room;
        };
        ripe = ripe A.place;
        few = few A.place;
      }

  -- a round's end passes the order and the samples by
  closed : (x : State) → x.order ≡ s.order → ordered [] x ≡ finish_round (course K.job K.n []) (ordered [] s) → x ≡ finish_round K s
  unfolding finish_round
  closed x o e = by (ripe A.place)
    where
      by : Ripe K.job s.rec → x ≡ finish_round K s
      by (seeds z m) = seeding_any K s x o (e ∙ stage0 s.rec.stage _ _ _ _ _ z) ∙ sym (stage0 s.rec.stage _ _ _ _ _ z)
      by (grows z m) = growing_any K s x o (e ∙ stage1 s.rec.stage _ _ _ _ _ z) ∙ sym (stage1 s.rec.stage _ _ _ _ _ z)
      by (replaces z m) = replacing_any K s x o (e ∙ stage2 s.rec.stage _ _ _ _ _ z) ∙ sym (stage2 s.rec.stage _ _ _ _ _ z)
      by (finishes z) = final_any K s x o (e ∙ stage4 s.rec.stage _ _ _ _ _ z) ∙ sym (stage4 s.rec.stage _ _ _ _ _ z)

  pub fewer : (x : State) → x.order ≡ s.order → ordered [] x ≡ finish_round (course K.job K.n []) (ordered [] s) → togo K x < togo K s
  fewer x o e = rw (closed x o e) (togo_less K A.ready.sizes.subs A.ready.sizes.some s A.place d)

  standing_on : Standing K (finish_round K s)
  standing_on =
      record {
        ready = A.ready;
        place = finish_placed K A.ready.sizes.subs A.ready.sizes.some s A.place d;
        sound = finish_sound K A.ready s A.sound;
      }

-- ---- the settling loop
pub record Settling (K : Course) (from s : State) : Type 0 where
  pub standing : Standing K s
  pub same : settle K from ≡ settle K s

pub begun : (K : Course) (s : State) → Standing K s → Settling K s s
begun K s A = record { standing = A; same = refl }

pub again : (K : Course) (from s : State) → Settling K from s → due s ≡ true → (x : State) → x.order ≡ s.order → ordered [] x ≡ finish_round (course K.job K.n []) (ordered [] s) → Settling K from x
again K from s A d x o e =
    subst⁻¹ (Settling K from) (closed K s A.standing d x o e)
    (record { standing = standing_on K s A.standing d; same = A.same ∙ settle-more K A.standing.ready.sizes.subs A.standing.ready.sizes.some s A.standing.place d })

pub ended : (K : Course) (from s : State) → Settling K from s → due s ≡ false → s ≡ settle K from
ended K from s A d = sym (A.same ∙ settle-done K A.standing.ready.sizes.subs A.standing.ready.sizes.some s A.standing.place d)
