-- The contract of each function is what `contracts` says of it: its own proof is cited. Assumes nothing.
use Rattle.run_start.proofs.start.Met as start
use Rattle.run_advance.proofs.advance.Met as advance
use Rattle.run_hand_in.proofs.hand_in.Met as hand_in
use Rattle.run_result.proofs.result.Met as result
use Rattle.fits.proofs.single_fit.Met as single_fit
use Rattle.fits_two.proofs.best_two.Met as best_two
use Rattle.assign.proofs.assign.Met as assign
use Rattle.group.proofs.group.Met as grouping
use Rattle.sheet.proofs.read.Met as read
use Rattle.sheet.proofs.write.Met as write
use Rattle.dunkafeto.proofs.dunkafeto_start.Met as start-export
use Rattle.dunkafeto.proofs.dunkafeto_advance.Met as advance-export
use Rattle.dunkafeto.proofs.dunkafeto_hand_in.Met as hand-in-export
use Rattle.dunkafeto.proofs.dunkafeto_result.Met as result-export
use Rattle.dunkafeto.proofs.dunkafeto_assign.Met as assign-export
use Rattle.fit_text.proofs.fit.Met as fit
use Rattle.train_text.proofs.train.Met as train
use Rattle.contracts.specs.Calls.{Contracts, Exports, Texts}

pub contracts : Contracts
contracts =
    record {
      start = λ M 𝓤 𝓛 𝓜 𝓡. start.met 𝓤 𝓛 𝓜 𝓡;
      advance = λ M 𝓤 𝓛 𝓜 𝓡. advance.met 𝓤 𝓛 𝓜 𝓡;
      hand_in = λ M 𝓤 𝓛 𝓜 𝓡. hand_in.met 𝓤 𝓛 𝓜 𝓡;
      result = λ M 𝓤 𝓛 𝓜 𝓡. result.met 𝓤 𝓛 𝓜 𝓡;
      single_fit = λ M 𝓤 𝓛 𝓜 𝓡. single_fit.met 𝓤 𝓛 𝓜 𝓡;
      best_two = λ M 𝓤 𝓛 𝓜 𝓡. best_two.met 𝓤 𝓛 𝓜 𝓡;
      assign = λ M 𝓤 𝓛 𝓜 𝓡. assign.met 𝓤 𝓛 𝓜 𝓡;
      grouping = λ M 𝓤 𝓛 𝓜 𝓡. grouping.met 𝓤 𝓛 𝓜 𝓡;
      read = λ M 𝓤 𝓛 𝓜 𝓡. read.met 𝓤 𝓛 𝓜 𝓡;
      write = λ M 𝓤 𝓛 𝓜 𝓡. write.met 𝓤 𝓛 𝓜 𝓡;
    }

pub exports : Exports
exports =
    record {
      start = λ M 𝓤 𝓛 𝓜 𝓡. start-export.met 𝓤 𝓛 𝓜 𝓡;
      advance = λ M 𝓤 𝓛 𝓜 𝓡. advance-export.met 𝓤 𝓛 𝓜 𝓡;
      hand_in = λ M 𝓤 𝓛 𝓜 𝓡. hand-in-export.met 𝓤 𝓛 𝓜 𝓡;
      result = λ M 𝓤 𝓛 𝓜 𝓡. result-export.met 𝓤 𝓛 𝓜 𝓡;
      assign = λ M 𝓤 𝓛 𝓜 𝓡. assign-export.met 𝓤 𝓛 𝓜 𝓡;
    }

pub texts : Texts
texts =
    record {
      fit = λ M 𝓤 𝓛 𝓜 𝓡. fit.met 𝓤 𝓛 𝓜 𝓡;
      train = λ M 𝓤 𝓛 𝓜 𝓡. train.met 𝓤 𝓛 𝓜 𝓡;
    }
