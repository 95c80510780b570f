use Rattle.packets.proofs.ConversationLemmas.{from_lower-same, from_lower-turned}
use Rattle.packets.proofs.laws.conversations_have_two_directions.Goals as goal

pub returns-clause-turned : goal.returns-clause-turned
returns-clause-turned c = from_lower-turned

pub returns-clause-alone : goal.returns-clause-alone
returns-clause-alone c = from_lower-same
