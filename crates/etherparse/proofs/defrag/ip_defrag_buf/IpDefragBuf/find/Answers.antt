use Rattle.std.proofs.Common.{subst}
use Rattle.etherparse.specs.IpDefragBuf.{Contents, FindsLocation}
use Rattle.etherparse.proofs.defrag.ip_defrag_buf.IpDefragBuf.find.Goals as goal

pub returns-in-Some : goal.returns-in-Some
returns-in-Some g c =
    let found = rw (c.as_slice.ensures, c.deref.ensures.value) at c.find_location.ensures in
    subst (λ (b : Contents _). FindsLocation b c.args.stored_fragment c.args.bytes.now c.find_location.result)
    c.self.view_is (rw c.in-Some.is found)
