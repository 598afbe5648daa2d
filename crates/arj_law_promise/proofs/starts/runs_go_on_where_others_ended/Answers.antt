use Rattle.arj_law_parts.proofs.Words.{refl}
use Rattle.arj_law_promise.proofs.statement.Later.{at_listed_fails, begun_again_fails, formed, grown, in_form, last_is_there}
use Rattle.arj_law_promise.proofs.statement.Later.{not_below_fails}
use Rattle.arj_law_promise.proofs.statement.Keeping.{runs_keep}
use Rattle.arj_law_promise.specs.starts.Samples.{later_run, some_moves, three_nodes}
use Rattle.arj_law_promise.proofs.starts.runs_go_on_where_others_ended.Goals as goal

pub returns-clause-goes_on : goal.returns-clause-goes_on
returns-clause-goes_on c = record {
  formed = formed;
  up = refl;
  in_form = in_form;
  keeps = runs_keep three_nodes (later_run formed some_moves) in_form;
  begins = refl;
  refuses = refl;
}

pub returns-clause-last : goal.returns-clause-last
returns-clause-last c = last_is_there

pub returns-clause-grown : goal.returns-clause-grown
returns-clause-grown c = grown

pub returns-clause-not_below : goal.returns-clause-not_below
returns-clause-not_below c = not_below_fails

pub returns-clause-at_listed : goal.returns-clause-at_listed
returns-clause-at_listed c = at_listed_fails

pub returns-clause-begun_again : goal.returns-clause-begun_again
returns-clause-begun_again c = begun_again_fails
