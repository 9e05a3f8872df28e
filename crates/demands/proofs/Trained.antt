-- What `train` writes is a sheet that the reader accepts, or the line of a refusal. Assumes nothing.
use Prim.Native.Nat.{ℕ, ◌≤◌, ◌<◌}
use mathlib.Core.Path.{◌≡◌, refl, sym, ap, subst, ◌∙◌}
use native.Mathlib.Nat.{zero-add}
use native.Mathlib.Omega.{arith}
use mathlib.Core.Bool.{true}
use mathlib.Core.List.{List}
use lib.Dec.{T}
use lib.Pow.{are_bytes}
use lib.ListN.{length, take}
use lib.Seq.{sets}
use lib.Ieee.{Float}
use Rattle.answer.specs.Outcome.{Outcome, outcome}
use Rattle.format.specs.Format.{Answer, refused, accepted}
use Rattle.job.specs.Checks.{plain_answer}
use Rattle.sheet_format.specs.Sheet.{Sheet, read_sheet}
use Rattle.sheet_format.specs.Opened.{size_in}
use Rattle.sheet_format.specs.Lists.{floats}
use Rattle.sheet_pack.specs.Packed.{sheet_of}
use Rattle.sheet.specs.Sheets.{Singles, job_in, file_of}
use Rattle.sheet.proofs.Inverse.{sets_front, accepted-job}
use Rattle.sheet.proofs.Accepted.{within_limit}
use Rattle.sheet_parts.specs.Texts.{sheet_text}
use Rattle.sheet_parts.proofs.Repaints.{read_repainted, same-weight, same-content, same-job, its_palette, its_bound, repainted_long}
use Rattle.fit_lines.specs.Lines.{refused_line}
use Rattle.train_run.proofs.Singles.{trained_singles}
use Rattle.train_samples.proofs.Accepted as refusals
use Rattle.train_text.specs.Trained.{unit_course, trained_palette, trained_file, job_text}
use Rattle.train_text.specs.Train.{train_def}
use Rattle.train_text.proofs.Sheets.{no_place, printed}
use Rattle.train_text.proofs.Trains.{text-refused, text-sheet, trained_passes}
use Rattle.demands.specs.Trained.{samples, edition, written, TrainedAs, ReadBack, Line, Trained}

module _ (bytes room : List ℕ) (enough : 65536 ≤ length room) where
  -- what is stored, by what the reader says
  stored : (a : Answer Sheet) (text : List ℕ) → read_sheet (edition bytes room) bytes ≡ a → sheet_text (λ J p. job_text J) (edition bytes room) a ≡ text → train_def bytes room ≡ outcome (length text) (sets room 0 text)
  stored a text e t =
      subst (λ (l : List ℕ). train_def bytes room ≡ outcome (length l) (sets room 0 l)) (ap (sheet_text (λ J p. job_text J) (edition bytes room)) e ∙ t)
      (sym (printed bytes room _ _ enough (record { text = refl; place = sym (zero-add _) })))

  module _ (x : Sheet) (e : read_sheet (edition bytes room) bytes ≡ accepted x) where
    line_1 : samples x ≡ 0 → Line bytes room 1
    line_1 z = stored (accepted x) (refused_line 1) e (text-refused (job_in (edition bytes room) x) 1 (refusals.none (samples x) z) (λ (q : 1 ≡ 0). omega arith))

    line_2 : 16384 < samples x → Line bytes room 2
    line_2 l = stored (accepted x) (refused_line 2) e (text-refused (job_in (edition bytes room) x) 2 (refusals.many (samples x) (λ (q : samples x ≡ 0). omega arith) l) (λ (q : 2 ≡ 0). omega arith))

    -- ---- the sheet trained
    module _ (b : T (are_bytes bytes)) (some : 1 ≤ samples x) (few : samples x ≤ 16384) where
      palette : List Float
      palette = trained_palette (unit_course (job_in (edition bytes room) x))

      singles : Singles palette
      singles = unfold palette trained_palette in trained_singles (unit_course (job_in (edition bytes room) x)) _

      passes : (plain_answer (job_in (edition bytes room) x) palette true).number ≡ 0
      passes = unfold palette in trained_passes (job_in (edition bytes room) x) (floats x.palette) (accepted-job (size_in bytes) bytes x b e) some few

      file : List ℕ
      file = file_of (job_in (edition bytes room) x) palette

      long : length file ≡ length bytes
      long = unfold file in repainted_long (size_in bytes) bytes x b e palette singles passes

      whole : written bytes room ≡ file
      whole =
          ap (λ (o : Outcome ℕ (List ℕ)). take o.answer o.after) (stored (accepted x) file e (text-sheet (job_in (edition bytes room) x) some few ∙ (unfold trained_file file palette in refl)))
          ∙ sets_front file room (omega (arith, long, (within_limit (edition bytes room) bytes x e).0))

      trained_as : TrainedAs (edition bytes room) x (sheet_of (job_in (edition bytes room) x) palette)
      trained_as = record {
        subs = refl;
        each = refl;
        tiles = refl;
        weight = same-weight (size_in bytes) bytes x b e palette singles passes;
        content = same-content (size_in bytes) bytes x b e palette singles passes;
        job = same-job (size_in bytes) bytes x b e palette singles passes;
        palette = its_palette (size_in bytes) bytes x b e palette singles passes ∙ (unfold palette in refl);
        small = its_bound (size_in bytes) bytes x b e palette singles passes;
      }

      read_back : ReadBack bytes room x
      read_back = record {
        sheet = sheet_of (job_in (edition bytes room) x) palette;
        reads = ap (read_sheet (edition bytes room)) whole ∙ (unfold file in read_repainted (size_in bytes) bytes x b e palette singles passes);
        trained = trained_as;
        long = ap length whole ∙ long;
      }

pub train-writes : Trained
train-writes = record {
  writes = λ bytes room b enough. record {
    sheet = λ x e some few. read_back bytes room enough x e b some few;
    none = λ x e z. line_1 bytes room enough x e z;
    many = λ x e l. line_2 bytes room enough x e l;
    no_sheet = λ n e. stored bytes room enough (refused n) (refused_line n.number) e refl;
  };
  no_room = λ bytes room h. sym (no_place bytes room h);
}
