-- What roots were granted, against what they keep, at all coordinators in every run.
use Rattle.arj_law_lock_view.proofs.Terms.{KnowsGrants, KnowsMade}
use Rattle.arj_law_lock_view.proofs.facts.{GrantNaming.given_so, GrantSteps.grants_kept, Kept.keeps_so}
use Rattle.arj_law_lock_view.specs.facts.Grants.{HandlersKeepGrants, says_grants}

pub grants_keep : HandlersKeepGrants
grants_keep hd = keeps_so says_grants KnowsGrants KnowsMade grants_kept (given_so says_grants (λ r its. its)) hd
