use Rattle.fwupd_watch.proofs.Begun.{whole_beginning}
use Rattle.fwupd_watch.proofs.files.beginning_of.Goals as goal

pub returns-then-size-le-BEGINNING-clause-whole : goal.returns-then-size-le-BEGINNING-clause-whole
returns-then-size-le-BEGINNING-clause-whole g c _ =
    whole_beginning (g.R.Read.remaining c.args.reader.now) c.in_ok-bytes.bytes.items c.from_bytes.result.bytes.items c.from_bytes.result.file_length c.in_ok-bytes.ensures.bytes c.from_bytes.ensures
