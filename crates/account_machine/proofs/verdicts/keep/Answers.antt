use Rattle.std.proofs.Common.{sym}
use Rattle.digest_cache.specs.Cache.{digest_of}
use Rattle.account_machine.proofs.Roomy.{room-after}
use Rattle.account_machine.proofs.verdicts.keep.Goals as goal

pub returns-in-Some-clause-room : goal.returns-in-Some-clause-room
returns-in-Some-clause-room c = λ accounts place found room.
    room-after (digest_of c.args.digests.now) (digest_of c.put.new.self) c.args.digests.now.spare c.put.new.self.spare c.args.account.now c.args.fit c.in-Some.id
    c.digest.result accounts place c.put.ensures.kept c.put.ensures.left (sym c.in-Some.ensures) found room
