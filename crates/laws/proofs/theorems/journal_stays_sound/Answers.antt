-- Each clause by the lemma that it is. Assumes nothing.
use Rattle.undo_log.proofs.Sound.{sound_read, bare_sound}
use Rattle.undo_log.proofs.KeptCall.{call_sound}
use Rattle.undo_log.proofs.Copied.{copy_sound}
use Rattle.undo_log.proofs.KeptMark.{mark_sound}
use Rattle.undo_log.proofs.KeptBack.{back_sound_lem}
use Rattle.undo_log.proofs.Short.{journal_short}
use Rattle.laws.proofs.theorems.journal_stays_sound.Goals as goal

pub returns : goal.returns
returns c =
    record {
      sound_read = sound_read;
      bare_sound = bare_sound;
      call_sound = call_sound;
      copy_sound = copy_sound;
      mark_sound = mark_sound;
      back_sound = back_sound_lem;
      journal_short = journal_short;
    }
