use Rattle.std.proofs.Common.{ap, sym, ◌∙◌}
use Rattle.ep_tcpudp.specs.Options.{items_of}
use Rattle.ep_tcpudp.proofs.OptionsItems.{items-end, none_after, step_ok, step_err, rest_ok, progress}
use Rattle.ep_tcpudp.proofs.transport.tcp_options_iterator.TcpOptionsIteratorIterator.next.Goals as goal

pub returns-then-is_end-clause-steps : goal.returns-then-is_end-clause-steps
returns-then-is_end-clause-steps c = (
  ap items_of (sym c.self.view_is) ∙ items-end c.self.inside.options.now
      (sym c.is_end.ensures ∙ c.if-is_end.true),
  none_after c.self.inside.options.now,
)

pub returns-in-Ok-clause-steps : goal.returns-in-Ok-clause-steps
returns-in-Ok-clause-steps c =
    step_ok c.args.self.now c.self.inside.options.now c.in-Ok.element _ _ c.self.view_is
    c.is_end.ensures c.if-is_end.false c.in-Ok.ensures.exact c.size_at.ensures

pub returns-in-Ok-clause-rest : goal.returns-in-Ok-clause-rest
returns-in-Ok-clause-rest c =
    rest_ok c.args.self.now c.self.inside.options.now c.in-Ok.element _ _ c.self.view_is
    c.is_end.ensures c.if-is_end.false c.in-Ok.ensures.exact c.size_at.ensures

pub returns-in-Ok-clause-goes : goal.returns-in-Ok-clause-goes
returns-in-Ok-clause-goes c = progress _ _ _ (returns-in-Ok-clause-steps c)

pub returns-in-Err-clause-steps : goal.returns-in-Err-clause-steps
returns-in-Err-clause-steps c =
    step_err c.args.self.now c.self.inside.options.now c.in-Err.error _ c.self.view_is
    c.is_end.ensures c.if-is_end.false c.in-Err.ensures.exact

pub returns-in-Err-clause-goes : goal.returns-in-Err-clause-goes
returns-in-Err-clause-goes c = progress _ _ _ (returns-in-Err-clause-steps c)
