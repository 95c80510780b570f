use Rattle.captures.proofs.Translating.{translates_nothing}
use Rattle.captures.proofs.translation.translator.run_translator.Goals as goal

pub returns-in_default-clause-ends : goal.returns-in_default-clause-ends
returns-in_default-clause-ends g c =
    translates_nothing (g.T.Translator.task c.args.translator.now) g.D.Device.transition
    (g.T.Translator.shows c.args.translator.now) c.args.reads c.args.device.now c.args.header.now
    c.requires.begins
