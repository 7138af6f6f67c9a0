use Rattle.std.proofs.Common.{◌∙◌, ap, get_or}
use Rattle.std.proofs.lemmas.List.{map-set}
use Rattle.fw_steps.specs.Steps.{verdict_fault}
use Rattle.fw_steps.proofs.Places.{found_at, same_put}
use Rattle.fw_steps.proofs.sites.judge_at.Goals as goal

pub returns-clause-judged : goal.returns-clause-judged
returns-clause-judged g c =
    let x = get_or c.args.sites.now c.args.place c.index-sites-place.result in
    let is = ap (get_or c.args.sites.now c.args.place) c.index-sites-place.is in
    record {
      site = x.site;
      became = c.judge.new.self.site;
      there = found_at c.args.sites.now c.args.place x c.requires.place is;
      judged = c.in-Ok.ensures.judged;
      put = map-set (λ s. s.site) c.args.sites.now c.args.place c.judge.new.self;
    }

pub returns-clause-may : goal.returns-clause-may
returns-clause-may g c =
    ap (verdict_fault c.args.verdict) (found_at c.args.sites.now c.args.place (get_or c.args.sites.now c.args.place c.index-sites-place.result) c.requires.place (ap (get_or c.args.sites.now c.args.place) c.index-sites-place.is))
    ∙ c.in-Ok.ensures.may

pub returns-in-Err-clause-refused : goal.returns-in-Err-clause-refused
returns-in-Err-clause-refused g c =
    rw (found_at c.args.sites.now c.args.place (get_or c.args.sites.now c.args.place c.index-sites-place.result) c.requires.place (ap (get_or c.args.sites.now c.args.place) c.index-sites-place.is))
    c.in-Err.ensures.refused

pub returns-in-Err-clause-same : goal.returns-in-Err-clause-same
returns-in-Err-clause-same g c =
    same_put c.args.sites.now c.args.place (get_or c.args.sites.now c.args.place c.index-sites-place.result) c.judge.new.self c.requires.place
    (ap (get_or c.args.sites.now c.args.place) c.index-sites-place.is) c.in-Err.ensures.same
