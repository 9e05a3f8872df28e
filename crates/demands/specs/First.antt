-- Every public call answers every input, checks its own arguments and ends: its contract asks nothing and has one outcome. A number is given exactly when
-- the table says, in its order, with the index of the entry at fault; a refusal carries both, reports no draws and writes nothing. Assumes nothing.
use Rattle.std.specs.Prelude.{ℕ, true, not, List, [], ◌∷◌, ◌++◌, leb, length, Float, Err}
use Rattle.answer.specs.Refusals.{Answered, nothing, answer_in}
use Rattle.answer.specs.Rules.{Rule, rule}
use Rattle.answer.specs.Names.{Table, Names}
use Rattle.job.specs.Job.{Job, is_empty}
use Rattle.job.specs.Checks.{plain_rules}
use Rattle.job.specs.Bad.{plain_names}
use Rattle.fits_outcome.specs.Fits.{single_def}
use Rattle.fits_outcome.specs.Pairs.{pair_def}
use Rattle.fits_check.specs.One.{one_rules}
use Rattle.assign.specs.Assign.{TileMemory, room_for, assign_def}
use Rattle.group_refusal.specs.Refusal.{Pixels, EntryRoom, group_answer, pixel_names}
use Rattle.group.specs.Group as groups
use Rattle.format.specs.Format.{Answer, refused, accepted}
use Rattle.sheet_format.specs.Sheet.{Sheet}
use Rattle.sheet.specs.Sheets.{Room, found, read_def, file_of, write_def}
use Rattle.quantizer.specs.Course.{Course}
use Rattle.run_stages.specs.Calls.{Memory, advanced, start_rules, advance_rules, hand_in_rules, result_rules, start_call, advance_call, hand_in_call, result_call}
use Rattle.run_calls.specs.Names.{start_names, run_names, hand_in_names}
use Rattle.demands.specs.Calls.{Call, Ruled}

-- ---- a call whose answer is nothing or a refusal
abbrev pub itself : Answered → Answered
itself e = e

-- ---- the sheet's reader: what is `found`, 2 for the tile size, 3 for room, 13 for too many bytes, then the first fault in field order (Sheets: 0, 2, 3, 12 and 13
-- exactly when). Only 7 has an index
abbrev pub refusal_in : Answer Sheet → Answered
refusal_in (refused e) = e
refusal_in (accepted x) = nothing

abbrev pub colour_names : Table
colour_names = (7, λ index. Unit {0}) ∷ []

-- ---- its writer: as for fitting, then 13, then 3 for room
abbrev pub write_rules : Job → List Float → List ℕ → List Rule
write_rules J palette bytes = plain_rules J palette true ++ (rule 13 (leb (length (file_of J palette)) 65536) ∷ rule 3 (leb (length (file_of J palette)) (length bytes)) ∷ [])

-- ---- the ten calls, on jobs of any tile size: a size that is none answers 2. Grouping and the sheet's reader have no job, and name their size
pub record First : Type 0 where
  pub start : (K : Course) (m : Memory) (seed : ℕ) → Ruled (start_call K m seed) itself (start_rules K m) itself m (start_names K)
  pub advance : (K : Course) (m : Memory) (a : ℕ) → Ruled (advance_call K m a) (λ x. x.refusal) (advance_rules K m) (λ e. advanced e 0) m (run_names K m)
  pub hand_in : (K : Course) (m : Memory) (reduced : List Float) → Ruled (hand_in_call K m reduced) itself (hand_in_rules K m reduced) itself m (hand_in_names K m reduced)
  pub result : (K : Course) (m : Memory) (out : List Float) → Ruled (result_call K m out) itself (result_rules K m out) itself out (run_names K m)
  pub single_fit : (J : Job) (palette : List Float) (hints : List ℕ)
      → Ruled (single_def J palette hints) answer_in (one_rules J palette (length hints) ++ (rule 15 (not (is_empty J 0)) ∷ [])) Err hints (plain_names J palette)
  pub best_two : (J : Job) (palette : List Float) (hints : List ℕ)
      → Ruled (pair_def J palette hints) answer_in (one_rules J palette (length hints)) Err hints (plain_names J palette)
  pub assign : (J : Job) (palette : List Float) (h : TileMemory)
      → Ruled (assign_def J palette h) itself (plain_rules J palette (room_for J.T (length h.hints) (length h.out))) itself h (plain_names J palette)
  -- `group_answer` is 2, 3, then pixel by pixel 7, which names the pixel, before 14
  pub grouping : (size : ℕ) (q : Pixels) (m : EntryRoom) → Call (groups.grouping size q m) answer_in (group_answer size q m) Err m
  pub grouping_index : (size : ℕ) (q : Pixels) (m : EntryRoom) → Names (pixel_names q) (group_answer size q m)
  pub read_sheet : (size : ℕ) (bytes : List ℕ) (h : Room) → Call (read_def size bytes h) answer_in (refusal_in (found size bytes h)) Err h
  pub read_index : (size : ℕ) (bytes : List ℕ) (h : Room) → Names colour_names (refusal_in (found size bytes h))
  pub write_sheet : (J : Job) (palette : List Float) (bytes : List ℕ)
      → Ruled (write_def J palette bytes) answer_in (write_rules J palette bytes) Err bytes (plain_names J palette)
