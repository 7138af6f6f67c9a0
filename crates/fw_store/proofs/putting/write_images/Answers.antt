use Rattle.std.proofs.Common.{◌∙◌, subst}
use Rattle.fw_store.specs.Active.{image_name}
use Rattle.fw_store.specs.Folders.{WritesFile}
use Rattle.fw_store.specs.Keeping.{IsKey}
use Rattle.fw_store.specs.Kept.{KeptOf}
use Rattle.fw_store.proofs.Moments.{stopped_more, storing_at, writing_at}
use Rattle.fw_store.proofs.putting.write_images.Goals as goal

pub returns-in-Err-clause-err : goal.returns-in-Err-clause-err
returns-in-Err-clause-err g c = λ k.
    stopped_more c.args.number _ _ _ _ _ _ _ c.file_name.ensures.number c.file_name.ensures.key (c.loop-image.invariant.writing k).stopped
    (rw (c.deref.ensures.value ∙ c.in-Ok.ensures.name) at (c.in-Err.ensures.err (c.loop-image.invariant.known ∙ k)))
    (c.in-Err.ensures.moment (c.loop-image.invariant.known ∙ k))

pub loop-image-preserved : goal.loop-image-preserved
loop-image-preserved g c =
    let same = c.image.view_is ∙ c.image-item.is in
    record {
      known = c.in-Ok-write.ensures.known ∙ c.loop-image.invariant.known;
      writing = λ k.
          writing_at c.args.number _ _ _ _ _ _ c.args.images.now c.loop-image.image-index _ c.loop-image-test.true c.file_name.ensures.number
          (subst (λ (x : KeptOf). IsKey x.key) same c.file_name.ensures.key) c.requires.apart (c.loop-image.invariant.writing k)
          (subst (λ (x : KeptOf). WritesFile (g.F.Folder.files c.loop-image.folder) (g.F.Folder.files c.write.new.self) (image_name x.key c.args.number) x.image.bytes) same
          (rw (c.deref.ensures.value ∙ c.in-Ok.ensures.name) at (c.in-Ok-write.ensures.ok (c.loop-image.invariant.known ∙ k))))
          (c.in-Ok-write.ensures.moment (c.loop-image.invariant.known ∙ k));
      storing = λ k.
          storing_at c.args.number _ _ _ c.args.images.now c.loop-image.image-index _ c.loop-image-test.true c.file_name.ensures.number
          (subst (λ (x : KeptOf). IsKey x.key) same c.file_name.ensures.key) c.requires.apart (c.loop-image.invariant.storing k)
          (subst (λ (x : KeptOf). WritesFile (g.F.Folder.stored c.loop-image.folder) (g.F.Folder.stored c.write.new.self) (image_name x.key c.args.number) x.image.bytes) same
          (rw (c.deref.ensures.value ∙ c.in-Ok.ensures.name) at (c.in-Ok-write.ensures.stored (c.loop-image.invariant.known ∙ k))));
    }
