use Rattle.arj_store.proofs.Entries.{one_list}
use Rattle.arj_store.proofs.laws.lists_are_determined.Goals as goal

pub returns : goal.returns
returns c p q held held_too pend pend_too same a b =
    (one_list p.held q.held held held_too same.committed a.committed b.committed, one_list p.pend q.pend pend pend_too same.prepared a.prepared b.prepared)
