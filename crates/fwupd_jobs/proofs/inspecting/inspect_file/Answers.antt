use Rattle.std.proofs.Common.{inl, inr, refl}
use Rattle.fw_json.specs.Forms.{inspection_in}
use Rattle.fwupd_jobs.proofs.Examined.{breaks, inspection_fails, inspects}
use Rattle.fwupd_nodes.proofs.Packed.{unread_package}
use Rattle.fwupd_jobs.proofs.inspecting.inspect_file.Goals as goal

pub returns-in-Err-clause-fault : goal.returns-in-Err-clause-fault
returns-in-Err-clause-fault g c =
    inr (unread_package (g.F.Files.holds c.args.files.now) c.args.path.now c.in-Err.fault c.read_fault.result c.read_fault.ensures c.in-Err.ensures.fails, refl)

pub returns-in-Err-inspect_beginning_in-clause-fault : goal.returns-in-Err-inspect_beginning_in-clause-fault
returns-in-Err-inspect_beginning_in-clause-fault g c =
    inr (
      inspection_fails (g.F.Files.holds c.args.files.now) c.args.path.now c.in-Ok.ensures.held.bytes c.in-Err-inspect_beginning_in.fault c.inspection_fault.result
          c.in-Ok.ensures.held.held c.inspection_fault.ensures ((rw c.deref.ensures.value at c.in-Err-inspect_beginning_in.ensures.fault) c.in-Ok.ensures.held.bytes c.in-Ok.ensures.held.is),
      refl,
    )

pub returns-in-Ok-write-clause-ok : goal.returns-in-Ok-write-clause-ok
returns-in-Ok-write-clause-ok g c =
    inspects (g.F.Files.holds c.args.files.now c.args.path.now) (inspection_in c.args.form) c.in-Ok.ensures.held.bytes c.in-Ok-inspect_beginning_in.text.items c.args.output.now c.write.new.self
    c.in-Ok.ensures.held.held ((rw c.deref.ensures.value at c.in-Ok-inspect_beginning_in.ensures.text) c.in-Ok.ensures.held.bytes c.in-Ok.ensures.held.is) (rw c.deref-2.ensures.value at c.in-Ok-write.ensures.ok)

pub returns-clause-fault : goal.returns-clause-fault
returns-clause-fault g c =
    inl (breaks (g.F.Files.holds c.args.files.now c.args.path.now) (inspection_in c.args.form) c.in-Ok.ensures.held.bytes c.in-Ok-inspect_beginning_in.text.items c.in-Err-write.fault c.args.output.now c.write.new.self
    c.in-Err-write.ensures.fault c.in-Ok.ensures.held.held ((rw c.deref.ensures.value at c.in-Ok-inspect_beginning_in.ensures.text) c.in-Ok.ensures.held.bytes c.in-Ok.ensures.held.is) (rw c.deref-2.ensures.value at c.in-Err-write.ensures.failed))
