use Rattle.std.proofs.Common.{◌∙◌, ap, subst, sym}
use Rattle.std.specs.Option.{IfSome}
use Rattle.std.specs.Prelude.{IfErr}
use Rattle.ep_packet.specs.Class.{Class, as_class}
use Rattle.etherparse.specs.IpDefragPool.{Accepts, Refuses, same_id}
use Rattle.etherparse.specs.IpFragId.{fragment_in, id_named}
use Rattle.etherparse.specs.Counts.{HasMemoryFor, KeepsMemoryOf}
use Rattle.etherparse.specs.Repeats.{TakesRepeat}
use Rattle.etherparse.specs.Starts.{StartsAfter}
use Rattle.etherparse.specs.ReassemblyTable.{OthersStay, Stays, reassembly_at}
use Rattle.etherparse.proofs.defrag.ip_defrag_pool.IpDefragPool.process_sliced_packet.Goals as goal

pub returns-in-Cut-clause-accepted : goal.returns-in-Cut-clause-accepted
returns-in-Cut-clause-accepted g c =
    subst (λ (class : Class). IfSome (fragment_in class) (λ reported.
    Accepts (same_id g.CustomChannelId.PartialEq.eq) c.args.self.now
    c.process_fragment.new.self (id_named reported.0 c.args.channel_id) reported.1
    c.args.timestamp c.process_fragment.result))
    (ap as_class (sym c.in-Cut.is) ∙ c.class.ensures.class) c.process_fragment.ensures.accepted

pub returns-in-Cut-clause-refused : goal.returns-in-Cut-clause-refused
returns-in-Cut-clause-refused g c =
    subst (λ (class : Class). IfSome (fragment_in class) (λ reported.
    Refuses (same_id g.CustomChannelId.PartialEq.eq) c.args.self.now
    (id_named reported.0 c.args.channel_id) reported.1 c.process_fragment.result))
    (ap as_class (sym c.in-Cut.is) ∙ c.class.ensures.class) c.process_fragment.ensures.refused

pub returns-in-Cut-clause-repeat : goal.returns-in-Cut-clause-repeat
returns-in-Cut-clause-repeat g c =
    let same = same_id g.CustomChannelId.PartialEq.eq in
    subst (λ (class : Class). IfSome (fragment_in class) (λ reported.
    TakesRepeat (reassembly_at same c.args.self.now (id_named reported.0 c.args.channel_id))
    (reassembly_at same c.process_fragment.new.self (id_named reported.0 c.args.channel_id)) reported.1
    c.process_fragment.result))
    (ap as_class (sym c.in-Cut.is) ∙ c.class.ensures.class) c.process_fragment.ensures.repeat

pub returns-in-Cut-clause-others : goal.returns-in-Cut-clause-others
returns-in-Cut-clause-others g c =
    subst (λ (class : Class). IfSome (fragment_in class) (λ reported.
    OthersStay (same_id g.CustomChannelId.PartialEq.eq) (id_named reported.0 c.args.channel_id)
    c.args.self.now c.process_fragment.new.self))
    (ap as_class (sym c.in-Cut.is) ∙ c.class.ensures.class) c.process_fragment.ensures.others

pub returns-in-Cut-clause-err : goal.returns-in-Cut-clause-err
returns-in-Cut-clause-err g c =
    subst (λ (class : Class). IfSome (fragment_in class) (λ reported.
    IfErr c.process_fragment.result (Stays (same_id g.CustomChannelId.PartialEq.eq)
    (id_named reported.0 c.args.channel_id) c.args.self.now c.process_fragment.new.self)))
    (ap as_class (sym c.in-Cut.is) ∙ c.class.ensures.class) c.process_fragment.ensures.err

pub returns-in-Cut-clause-succeeds : goal.returns-in-Cut-clause-succeeds
returns-in-Cut-clause-succeeds g c =
    subst (λ (class : Class). IfSome (fragment_in class) (λ reported.
    HasMemoryFor (same_id g.CustomChannelId.PartialEq.eq) c.args.self.now
    (id_named reported.0 c.args.channel_id) reported.1 c.process_fragment.result))
    (ap as_class (sym c.in-Cut.is) ∙ c.class.ensures.class) c.process_fragment.ensures.succeeds

pub returns-in-Cut-clause-memory : goal.returns-in-Cut-clause-memory
returns-in-Cut-clause-memory g c =
    subst (λ (class : Class). IfSome (fragment_in class) (λ reported.
    KeepsMemoryOf (same_id g.CustomChannelId.PartialEq.eq) c.args.self.now
    c.process_fragment.new.self (id_named reported.0 c.args.channel_id)
    c.process_fragment.result))
    (ap as_class (sym c.in-Cut.is) ∙ c.class.ensures.class) c.process_fragment.ensures.memory

pub returns-in-Cut-clause-starts : goal.returns-in-Cut-clause-starts
returns-in-Cut-clause-starts g c =
    subst (λ (class : Class). IfSome (fragment_in class) (λ reported.
    StartsAfter (same_id g.CustomChannelId.PartialEq.eq) c.args.self.now
    c.process_fragment.new.self (id_named reported.0 c.args.channel_id)
    c.process_fragment.result))
    (ap as_class (sym c.in-Cut.is) ∙ c.class.ensures.class) c.process_fragment.ensures.starts
