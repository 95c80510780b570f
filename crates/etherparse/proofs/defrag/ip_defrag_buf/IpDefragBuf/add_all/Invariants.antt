use Rattle.std.proofs.Common.{◌≡◌, ◌≤◌, List, map, take}
use Rattle.etherparse.specs.Fragments.{Fragment, accepted_count, fragment, with_all_accepted}
use Rattle.etherparse.specs.IpDefragBuf.{Shows, rule_of}
use Rattle.etherparse.specs.Room.{NoLessRoom}
use Rattle.etherparse.proofs.defrag.ip_defrag_buf.IpDefragBuf.add_all.Given as goal

abbrev pub invariant-loop-offset : goal.invariant-loop-offset
invariant-loop-offset l = record {
  few : l.count ≤ l.offset-index;
  so_far : (fs : List Fragment) → Shows l.fn.self fs
      → Shows l.self (with_all_accepted (rule_of l.fn.self) fs
      (map (λ f. fragment f.0 f.1 f.2.now) (take l.offset-index l.fragments)));
  counted : (fs : List Fragment) → Shows l.fn.self fs
      → l.count ≡ accepted_count (rule_of l.fn.self) fs
      (map (λ f. fragment f.0 f.1 f.2.now) (take l.offset-index l.fragments));
  ip_number : l.self.ip_number ≡ l.fn.self.ip_number;
  rule : rule_of l.self ≡ rule_of l.fn.self;
  room : NoLessRoom l.fn.self.room l.self.room;
}
