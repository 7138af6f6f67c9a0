use Rattle.std.proofs.lemmas.List.{length-map}
use Rattle.fw_package.specs.Asked.{asked_component_of}
use Rattle.fw_package.proofs.Measured.{capped_header}
use Rattle.fw_package.proofs.measures.header_size.Goals as goal

pub returns : goal.returns
returns c =
    rw (c.saturating_add-2.ensures, c.saturating_add.ensures, c.saturating_add-lists.ensures, c.records_size.ensures, c.components_size.ensures, c.bitmap_size-bitmap_size.ensures, length-map c.args.asked.now.components.now asked_component_of)
    (capped_header _ _ _)
