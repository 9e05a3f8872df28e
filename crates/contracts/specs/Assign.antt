-- assign and its export: what they are given, what a caller sees, what is defined of it, and what the first two demands say of that. Definitions only. Assumes nothing.
use Rattle.std.specs.Prelude.{ℕ, ◌<◌, ◌≡◌, false, List, length, get_or, Float}
use contract.Lifetimes.{Lfts}
use denote.Triple.Entry.{Args, Res}
use denote.Triple.Clauses.{AtExit}
use Rattle.job.specs.Job.{Job, sizes_of, job_of, job_in, is_empty}
use Rattle.answer.specs.Refusals.{Answered, refusal_of}
use Rattle.answer.specs.Outcome.{Outcome, outcome}
use Rattle.answer.specs.Rules.{Rule, answer}
use Rattle.job.specs.Checks.{plain_rules}
use Rattle.palette_tile.specs.Tiles.{winner}
use Rattle.assign_tiles.specs.Tiles.{TileMemory, tile_memory}
use Rattle.assign.specs.Assign.{room_for, assign_def}
use Rattle.demands.specs.Second.{Chosen}
use Rattle.answer.specs.Words.{told}
use Rattle.demands.specs.First.{itself}
use Rattle.assign.specs.contracts.assign as function
use Rattle.assign.proofs.assign.Symbol as symbol
use Rattle.dunkafeto.specs.contracts.dunkafeto_assign as export
use Rattle.dunkafeto.proofs.dunkafeto_assign.Symbol as export-symbol
use Rattle.contracts.specs.Answers.{Answers, Tells}
use Rattle.contracts.specs.Keeps.{Compiled}

module _ (κs : Lfts (function.signature).lifetimes) (a : Args function.signature κs) where
  -- the job and the palette, then the hints and the room for the subpalettes
  abbrev pub job_given : Job
  job_given = job_in a.0.now

  abbrev pub palette_given : List Float
  palette_given = a.1.0.now

  abbrev pub tiles_lent : TileMemory
  tiles_lent =
      let h = a.1.1 in
      tile_memory h.0.now h.1.0.now

  abbrev pub tiles_left : AtExit function.ended κs → TileMemory
  tiles_left e =
      let h = e.1.1 in
      tile_memory h.0.now h.1.0.now

  abbrev rules : List Rule
  rules = plain_rules job_given palette_given (room_for job_given.T (length tiles_lent.hints) (length tiles_lent.out))

  abbrev pub seen : Res function.signature κs → AtExit function.ended κs → Outcome Answered TileMemory
  seen r e = outcome (refusal_of r) (tiles_left e)

  abbrev pub defined : Outcome Answered TileMemory
  defined = assign_def job_given palette_given tiles_lent

  abbrev pub answers : Outcome Answered TileMemory → Type 0
  answers = Answers itself (answer rules) itself tiles_lent

  -- the second demand: where it answers 0, each tile that is not empty gets the choice, which becomes its hint
  abbrev pub chooses : Outcome Answered TileMemory → Type 0
  chooses x =
      let s = job_given.S in
      let c = job_given.C in
      x.answer.number ≡ 0 → (t : ℕ) → t < job_given.T → is_empty job_given t ≡ false
      → Chosen job_given palette_given s c t
      × (get_or x.after.out t 0 ≡ winner job_given palette_given s c t)
      × (get_or x.after.hints t 0 ≡ winner job_given palette_given s c t)

-- its export takes the tile size, S, C, T and the weight by themselves, and the slices one by one
module _ (κs : Lfts (export.signature).lifetimes) (a : Args export.signature κs) where
  abbrev pub export_job : Job
  export_job =
      let j = a.1.1.1.1.1 in
      job_of (sizes_of a.0 a.1.0 a.1.1.0 a.1.1.1.0 0 a.1.1.1.1.0) j.0.now j.1.0.now j.1.1.0.now

  abbrev pub export_palette : List Float
  export_palette = a.1.1.1.1.1.1.1.1.0.now

  abbrev pub export_tiles : TileMemory
  export_tiles =
      let h = a.1.1.1.1.1.1.1.1.1 in
      tile_memory h.0.now h.1.0.now

  abbrev pub export_seen : Res export.signature κs → AtExit export.ended κs → Outcome ℕ TileMemory
  export_seen r e =
      let h = e.1.1.1.1.1.1.1.1.1 in
      outcome r (tile_memory h.0.now h.1.0.now)

  abbrev pub export_defined : Outcome ℕ TileMemory
  export_defined = told (assign_def export_job export_palette export_tiles)

  abbrev pub ExportAnswers : Outcome ℕ TileMemory → Type 0
  ExportAnswers =
      Tells (answer (plain_rules export_job export_palette (room_for export_job.T (length export_tiles.hints) (length export_tiles.out)))) export_tiles

abbrev pub compiled : Compiled (Outcome Answered TileMemory)
compiled = record { ended = function.ended; seen = seen; name = symbol.name; code = symbol.code }

abbrev pub exported : Compiled (Outcome ℕ TileMemory)
exported = record { ended = export.ended; seen = export_seen; name = export-symbol.name; code = export-symbol.code }
