use Rattle.arj_commit.proofs.Order as order
use Rattle.arj_commit.proofs.laws.commits_keep_the_order.Goals as goal

pub returns-clause-order : goal.returns-clause-order
returns-clause-order c = λ p q heard fresh decided. order.in_order p q heard fresh decided

pub returns-clause-lists : goal.returns-clause-lists
returns-clause-lists c = order.lists

pub returns-clause-asks : goal.returns-clause-asks
returns-clause-asks c = order.asks
