-- What a draw and the settling after it ask of a run at a stage that draws, and what both leave: a step. Assumes nothing.
use mathlib.Core.Path.{◌≡◌, sym, ap, subst, ◌∙◌}
use mathlib.Core.List.{List, []}
use Prim.Native.Nat.{ℕ}
use lib.Ieee.{Float}
use Rattle.quantizer.specs.Course.{Course}
use Rattle.run_stages.specs.declared.Record.{Record}
use Rattle.run_stages.specs.State.{State, state_with}
use Rattle.run_stages.specs.Stages.{subs_of, have_of, draw, settle, step}
use Rattle.run_calls.proofs.Place.{draw-place}
use Rattle.run_calls.proofs.Sound.{draw-sound}
use Rattle.run_draw.specs.Drawable.{Drawable}
use Rattle.run_draw.proofs.Draws.{drawable, draw_beside}
use Rattle.run_round.specs.Settles.{Standing}
use Rattle.run_steps.specs.Running.{Ongoing}

drawn_stands : (K : Course) (s : State) → Ongoing K s → Standing K (draw K s)
drawn_stands K s G =
    let R = G.running in
    let D = R.passed in
    record {
      ready = D.ready;
      place = draw-place K D.ready.sizes.subs D.ready.sizes.some s R.fit.rests G.going;
      sound = draw-sound K R.room D s R.fit.rests.place R.fit.sound;
    }

module _ (K : Course) (o h : List ℕ) (p l : List Float) (r : Record) where
  pub draw_asks : Ongoing K (state_with o h p l r) → Drawable K (state_with o h p [] r)
  unfolding subs_of have_of
  draw_asks G =
      let R = G.running in
      let A = drawable K R.room R.passed (state_with o h p l r) R.fit.rests R.fit.sound G.going in
      record { going = A.going; few = A.few; left = A.left }

  module _ (o2 h2 : List ℕ) (p2 : List Float) (r2 : Record) (e : state_with o2 h2 p2 [] r2 ≡ draw K (state_with o h p [] r)) where
    pub settle_asks : Ongoing K (state_with o h p l r) → Standing K (state_with o2 h2 p2 l r2)
    settle_asks G = subst (Standing K) (sym (draw_beside K o h p l [] r o2 h2 p2 r2 e)) (drawn_stands K (state_with o h p l r) G)

    pub stepped : (s : State) → s ≡ settle K (state_with o2 h2 p2 l r2) → s ≡ step K (state_with o h p l r)
    unfolding step
    stepped s f = f ∙ ap (settle K) (draw_beside K o h p l [] r o2 h2 p2 r2 e)
