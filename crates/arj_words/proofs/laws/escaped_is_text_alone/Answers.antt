use Rattle.arj_words.proofs.Escapes.{escaped_alone}
use Rattle.arj_words.proofs.laws.escaped_is_text_alone.Goals as goal

pub returns : goal.returns
returns c = escaped_alone
