use Rattle.std.proofs.Common.{sym, ◌∙◌}
use Rattle.fwupd_watch.proofs.Paths.{name_in_folder}
use Rattle.fwupd_watch.proofs.files.folder_and_name.Goals as goal

pub returns : goal.returns
returns c = name_in_folder c.args.path.now c.in-Some.folder.now c.in-Some.name.now c.in-Some.ensures.cases (sym c.is_empty.ensures ∙ c.if-is_empty.false)
