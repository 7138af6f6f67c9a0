use Rattle.std.proofs.Common.{rules}
use Rattle.fw_store.proofs.Listing.{lists_pushed}
use Rattle.fw_store.proofs.known.KnownFolder.list.Goals as goal

pub returns : goal.returns
returns c = lists_pushed (λ n. n.items) _ c.args.name.now c.args.names.now.items c.push.new.self.items _ (search rules) c.in_ok-push.ensures.items c.in_ok-copied.ensures
