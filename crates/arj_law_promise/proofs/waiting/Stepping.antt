-- How a call goes on behind an answer that names a binding, and by which of its steps an answer was asked.
use Rattle.arj_law_parts.proofs.Words
use Words.{◌≡◌, ◌==◌, ◌&&◌, ◌∙◌, ℕ, Bool, true, false, cond, Option, Some, None, ap, refl, subst, sym, ⊤, Ask, Asked, Head, Reply, actor}
use Words.{waits_for_call, At, CallStep, Ended, Known, On, Steps, bound_by, other_binding, same_binding, with_inc, Calling, Doing, doing_of}
use Words.{Disk, Parts, binding_eq, binding_less, is_own, Post, Seen}
use Words.calls
use Rattle.arj_law_promise.proofs.Terms.{some_is, IsOfStep, node_here, AreAsked, IsAskedBy, IsNumbered, up, IsAnsweredBy}
use Rattle.arj_law_promise.proofs.waiting.Known.{waits_req}
use Rattle.arj_law_serial.proofs.joint.MarkRuns.{own_doing}

-- ---- a binding is named

module _ (N : At → Type 0) where
  -- the step goes on so, or ends
  abbrev pub IsOn : CallStep → Type 0
  IsOn (On n) = N n
  IsOn (Ended e) = ⊤

  module _ (n : At) (new : N n) where
    pub inc_so : (i : ℕ) (kept : Known) (o : Option ℕ) → IsOn (with_inc i kept n o).step
    inc_so i kept None = new
    inc_so i kept (Some first) = by (first == i)
      where
        by : (b : Bool) →
            IsOn (cond b (calls.moves (Some kept) n) (calls.finds (Some kept) (calls.Changed kept.server (calls.two_incs first i)))).step
        by true = new
        by false = tt

    same_so : (old k : Known) (o : Option ℕ) → IsOn (same_binding old k n o).step
    same_so old k None = new
    same_so old k (Some i) = inc_so i (calls.named_again old k) old.inc

    other_so : (free : Bool) (old k : Known) → IsOn (other_binding free old k n).step
    other_so free old k = by (free && binding_less old.binding k.binding)
      where
        by : (b : Bool) → IsOn
            (cond b (calls.moves (Some k) n) (calls.finds (Some old) (calls.Changed 1 (calls.two_bindings old.binding k.binding)))).step
        by true = new
        by false = tt

    pub bound_so : (free : Bool) (k : Known) (kept : Option Known) → IsOn (bound_by free k n kept).step
    bound_so free k None = new
    bound_so free k (Some old) = by (binding_eq old.binding k.binding)
      where
        by : (b : Bool) → IsOn (cond b (same_binding old k n k.inc) (other_binding free old k n)).step
        by true = same_so old k k.inc
        by false = other_so free old k

-- ---- what waits

-- an answer to a call that waits was asked by the step in which it waits
module _ (k : ℕ) (d : Disk) (t : Parts) (M : Seen) (asked : AreAsked (up k d t M)) (from : ℕ) (a : Asked) (r : Reply) (q : Doing)
    (s : Steps) (does : doing_of a.act t.coord ≡ Some q) (now : q.now ≡ Calling s) (number : IsNumbered q.req q.now)
    (waits : waits_for_call from a r s ≡ true)
    (p : Post) (to_it : p.to ≡ k) (h : Head) (b : Ask) (by : IsAnsweredBy M.sent p a h b) where
  who : actor h.path ≡ a.act
  who = ap (λ (z : Asked). z.act) by.asker

  last : IsAskedBy t.coord (let z = by.post in z.to) h b
  last = asked k (record { number = k; disk = d; live = Some t }) t (node_here M k (record { number = k; disk = d; live = Some t })) refl
      by.post h b by.posted (by.from ∙ to_it) by.asking (ap (λ u. is_own u t.coord.tree) who ∙ own_doing a.act t.coord q does)

  its : q ≡ last.doing
  its = some_is (sym does ∙ ap (λ u. doing_of u t.coord) (sym who) ∙ last.found)

  number_is : s.req ≡ q.req
  number_is = subst (IsNumbered q.req) now number

  pub of_waiting : IsOfStep s (let z = by.post in z.to) h b
  of_waiting = last.step s (ap (λ (z : Doing). z.now) (sym its) ∙ now)
      (ap (λ (z : Asked). z.req) by.asker ∙ sym (waits_req from a r s waits) ∙ number_is ∙ ap (λ (z : Doing). z.req) its)
