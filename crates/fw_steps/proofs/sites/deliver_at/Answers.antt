use Rattle.std.proofs.Common.{ap, get_or}
use Rattle.std.proofs.lemmas.List.{map-set}
use Rattle.fw_steps.proofs.Places.{found_at, same_put}
use Rattle.fw_steps.proofs.sites.deliver_at.Goals as goal

pub returns-clause-heard : goal.returns-clause-heard
returns-clause-heard g c =
    let x = get_or c.args.sites.now c.args.place c.index-sites-place.result in
    let is = ap (get_or c.args.sites.now c.args.place) c.index-sites-place.is in
    record {
      site = x.site;
      became = c.deliver.new.self.site;
      there = found_at c.args.sites.now c.args.place x c.requires.place is;
      heard = c.in-Ok.ensures.heard;
      put = map-set (λ s. s.site) c.args.sites.now c.args.place c.deliver.new.self;
    }

pub returns-in-Err-clause-same : goal.returns-in-Err-clause-same
returns-in-Err-clause-same g c =
    same_put c.args.sites.now c.args.place (get_or c.args.sites.now c.args.place c.index-sites-place.result) c.deliver.new.self c.requires.place
    (ap (get_or c.args.sites.now c.args.place) c.index-sites-place.is) c.in-Err.ensures.same
