-- Stores that a top includes: once it is decided each has the object committed, or has it prepared for the top and the top's record lists
-- it.
use Rattle.arj_law_parts.proofs.Words
use Words.{◌≡◌, ◌⊎◌, ◌∙◌, ℕ, true, List, Option, Some, sym, ap, subst, inl, inr, ⊎_elim, is_some, AllByRecursion, Body, Head, ObjectState}
use Words.{Uid, asks, object, actor, Grants, Marks, Disk, Effect, held_at, is_prepared, Parts, at_uid, Node, Post, Seen}
use Words.ask
use Words.body
use Words.message
use Rattle.arj_law_promise.proofs.Terms.{at, is_quiet_line, up, Up, Walks, halted, walks_both, walks_to}
use Rattle.arj_law_promise.proofs.settling
use settling.{Joins.IncludedFrom, Joins.PreparedFrom, Steps.Either, Steps.down_either, Steps.up_either, Stills.HasNoWork, Stills.no_stops}
use settling.Cores.{IsAcked, IsDone, IsHeld, Lists}
use settling.Milds.{here_is, now_cases, the_node, was_cases}
use settling.Trails.{Down, FitsSo, UpBy, Went, halt_went, went}

-- the node's store has a committed state of the object
abbrev pub IsStored : Seen → ℕ → ℕ → Type 0
IsStored M n x = (a : Node) × (M.nodes n ≡ Some a) × (is_some (held_at (object x) (let d = a.disk in d.store)) ≡ true)

-- a Confirm of the top, from its own node, includes this store of the object
abbrev pub IsIncluded : Seen → Uid → ℕ → ℕ → Type 0
IsIncluded M u x n = IncludedFrom u.node M.sent u x n

-- what a store has prepared it was asked for; and of a decided top each included store is so, also behind its acknowledgement
pub record IsStocked (M : Seen) : Type 0 where
  pub pend : (n : ℕ) (a : Node) (u : Uid) (ss : List ObjectState) → M.nodes n ≡ Some a →
      at_uid u (let d = a.disk in let s = d.store in s.pend) ≡ Some ss → (j : ℕ) × PreparedFrom j M.sent u n ss
  pub done : (u : Uid) (x n : ℕ) → IsIncluded M u x n → IsDone M u → (IsHeld M n u × Lists M u n) ⊎ IsStored M n x
  pub acked : (u : Uid) (x n : ℕ) → IsIncluded M u x n → IsDone M u → IsAcked M.sent n u → IsStored M n x

-- ---- one node's step

-- What has to be shown of it: what its store has, who is decided, whom records list, and what was sent.
pub record IsFed (k : ℕ) (d : Disk) (live : Option Parts) (M : Seen) (Says : Body → Type 0) (Sends : Post → Type 0) (D : Disk →
    Option Parts → Type 0) (Z : Seen) (w : Went k M Says Sends D Z) : Type 0 where
  pub held : (y : Uid) → is_some (held_at y d.store) ≡ true → is_some (held_at y (let c = w.disk in c.store)) ≡ true
  pub keeps : (u : Uid) → is_prepared u d.store ≡ true → (is_prepared u (let c = w.disk in c.store) ≡ true) ⊎ ((x : ℕ) →
      IsIncluded (at k d live M) u x k → IsDone (at k d live M) u → is_some (held_at (object x) (let c = w.disk in c.store)) ≡ true)
  pub pends : (u : Uid) (ss : List ObjectState) → at_uid u (let c = w.disk in let s = c.store in s.pend) ≡ Some ss →
      (at_uid u (let s = d.store in s.pend) ≡ Some ss) ⊎ ((j : ℕ) × PreparedFrom j M.sent u k ss)
  pub done : (u : Uid) (x n : ℕ) → IsIncluded (at k d live M) u x n → IsDone Z u →
      IsDone (at k d live M) u ⊎ ((IsHeld Z n u × Lists Z u n) × (IsAcked M.sent n u → ⊥))
  pub lists : (u : Uid) (x n : ℕ) → IsIncluded (at k d live M) u x n → IsDone (at k d live M) u → Lists (at k d live M) u n →
      Lists Z u n ⊎ IsStored (at k d live M) n x
  pub confirms : (p : Post) → Sends p → (h : Head) (g : Grants) (e i : Marks) → asks p.message ≡ Some (h, ask.Confirm g e i) →
      IsDone Z (actor h.path) → ⊥
  pub acks : (p : Post) → Sends p → (u : Uid) → p.message ≡ message.Acked (record { act = u }) → (x : ℕ) →
      IsIncluded (at k d live M) u x k → IsDone Z u → IsStored Z k x

module _ (k : ℕ) (d : Disk) (live : Option Parts) (M : Seen) (Says : Body → Type 0) (Sends : Post → Type 0) (D : Disk → Option Parts →
    Type 0) (Z : Seen) (w : Went k M Says Sends D Z) (stock : IsStocked (at k d live M)) (fed : IsFed k d live M Says Sends D Z w) where
  abbrev S : Seen
  S = at k d live M

  included_cases : (u : Uid) (x n : ℕ) → IsIncluded Z u x n → IsIncluded S u x n ⊎ (IsDone Z u → ⊥)
  included_cases u x n (p, i, from, h, g, e, l, is, act, there) = ⊎_elim (λ old. inl (p, old, from, h, g, e, l, is, act, there))
      (λ new. inr (λ done. fed.confirms p new.1 h g e l is (subst (IsDone Z) (sym act) done))) (w.back p i)

  stored_on : (n x : ℕ) → IsStored S n x → IsStored Z n x
  stored_on n x (a, is, on) = ⊎_elim
      (λ here. (
        the_node k w.disk w.live,
        ap Z.nodes here.0 ∙ w.here,
        fed.held (object x) (ap (λ (z : Node). is_some (held_at (object x) (let c = z.disk in c.store))) (sym here.1) ∙ on),
      ))
      (λ there. (a, there.1, on)) (was_cases k d live M Says Sends D Z w n a is)

  held_on : (u : Uid) (x n : ℕ) → IsIncluded S u x n → IsDone S u → IsHeld S n u → IsHeld Z n u ⊎ IsStored Z n x
  held_on u x n included done (a, is, on) = ⊎_elim
      (λ here. ⊎_elim
      (λ stays. inl (the_node k w.disk w.live, ap Z.nodes here.0 ∙ w.here, stays))
      (λ gone. inr (the_node k w.disk w.live, ap Z.nodes here.0 ∙ w.here, gone x (subst (IsIncluded S u x) here.0 included) done))
      (fed.keeps u (ap (λ (z : Node). is_prepared u (let c = z.disk in c.store)) (sym here.1) ∙ on)))
      (λ there. inl (a, there.1, on)) (was_cases k d live M Says Sends D Z w n a is)

  pub stocked_on : IsStocked Z
  stocked_on = record {
    pend = λ n a u ss is at_it. ⊎_elim
        (λ here. ⊎_elim
        (λ old. let p = stock.pend k (the_node k d live) u ss (mine k) old in
        (p.0, on_sent u n ss p.0 (subst (λ j. PreparedFrom p.0 M.sent u j ss) (sym here.0) p.1)))
        (λ new. (new.0, on_sent u n ss new.0 (subst (λ j. PreparedFrom new.0 M.sent u j ss) (sym here.0) new.1)))
        (fed.pends u ss (ap (λ (z : Node). at_uid u (let c = z.disk in let s = c.store in s.pend)) (sym here.1) ∙ at_it)))
        (λ there. let p = stock.pend n a u ss there.1 at_it in (p.0, on_sent u n ss p.0 p.1))
        (now_cases k d live M Says Sends D Z w n a is);
    done = λ u x n included done. ⊎_elim (λ old. whole u x n old done) (λ never. absurd (never done)) (included_cases u x n included);
    acked = λ u x n included done acked.
        ⊎_elim (λ old. later u x n old done acked) (λ never. absurd (never done)) (included_cases u x n included);
  }
    where
      mine : (j : ℕ) → (let Y = at j d live M in Y.nodes j) ≡ Some (the_node j d live)
      mine j = here_is j d live M

      on_sent : (u : Uid) (n : ℕ) (ss : List ObjectState) (j : ℕ) → PreparedFrom j M.sent u n ss → PreparedFrom j Z.sent u n ss
      on_sent u n ss j (p, i, from, to, h, is, act) = (p, w.on p i, from, to, h, is, act)

      whole : (u : Uid) (x n : ℕ) → IsIncluded (at k d live M) u x n → IsDone Z u → (IsHeld Z n u × Lists Z u n) ⊎ IsStored Z n x
      whole u x n included done = ⊎_elim
          (λ was. ⊎_elim
          (λ both. ⊎_elim (λ held. ⊎_elim (λ listed. inl (held, listed)) (λ stored. inr (stored_on n x stored))
          (fed.lists u x n included was both.1)) (λ stored. inr stored) (held_on u x n included was both.0))
          (λ stored. inr (stored_on n x stored))
          (stock.done u x n included was))
          (λ new. inl new.0) (fed.done u x n included done)

      later : (u : Uid) (x n : ℕ) → IsIncluded (at k d live M) u x n → IsDone Z u → IsAcked Z.sent n u → IsStored Z n x
      later u x n included done (p, i, from, is) = ⊎_elim
          (λ old. ⊎_elim (λ was. stored_on n x (stock.acked u x n included was (p, old, from, is)))
          (λ new. absurd (new.1 (p, old, from, is))) (fed.done u x n included done))
          (λ new. let n_is : k ≡ n = sym new.0 ∙ from in
          subst (λ j. IsStored Z j x) n_is (fed.acks p new.1 u is x (subst (IsIncluded (at k d live M) u x) (sym n_is) included) done))
          (w.back p i)

-- ---- walks, with what is known at their ends

module _ (R P : Seen → Type 0) (k : ℕ) (M : Seen) (Says : Body → Type 0) (Sends : Post → Type 0) (quiet : (b : Body) →
    is_quiet_line b ≡ true → Says b) (halts : Says (body.Halted k)) (D : Disk → Type 0) (v : Parts) where
  pub walk_by : (e : ℕ) (outs : List Effect) (c : Disk) → AllByRecursion (FitsSo k M Says Sends quiet halts D) outs → D c →
      ((Z : Seen) → R Z → Went k M Says Sends (Either D v) Z → P Z) → Walks R e k outs (Up R k v) c M → Walks P e k outs (Up P k v) c M
  walk_by e outs c all fits each known =
      walks_to (λ N. R N × Went k M Says Sends (Down k M Says Sends quiet halts D) N) P e k outs
      (λ b N. Up R k v b N × Went k M Says Sends (UpBy k M Says Sends quiet halts D v) (up k b v N)) (Up P k v) c M
      (λ N h. each N h.0 (down_either R P k M Says Sends quiet halts D v N h.1))
      (λ b N h. each (up k b v N) h.0 (up_either R P k M Says Sends quiet halts D v (up k b v N) h.1))
      (walks_both R (Went k M Says Sends (Down k M Says Sends quiet halts D)) e k outs (Up R k v) (λ b N. Went k M Says Sends
      (UpBy k M Says Sends quiet halts D v) (up k b v N)) c M known (went k M Says Sends quiet halts D e v outs c all fits))

  -- a stop at once
  pub halt_by : (e : ℕ) (c : Disk) → D c → ((Z : Seen) → R Z → Went k M Says Sends (Either D v) Z → P Z) → R (halted e k c M) →
      P (halted e k c M)
  halt_by e c fits each known = each (halted e k c M) known
      (down_either R P k M Says Sends quiet halts D v (halted e k c M) (halt_went k M Says Sends quiet halts D e c fits))

  -- where no stop falls
  pub still_by : (e : ℕ) (outs : List Effect) (c : Disk) → AllByRecursion HasNoWork outs → AllByRecursion (FitsSo k M Says Sends quiet halts
      D) outs → D c → ((b : Disk) (N : Seen) → R (up k b v N) → Went k M Says Sends (UpBy k M Says Sends quiet halts D v) (up k b v N) →
      P (up k b v N)) → Walks R e k outs (Up R k v) c M → Walks P e k outs (Up P k v) c M
  still_by e outs c none all fits each known =
      no_stops (λ N. R N × Went k M Says Sends (Down k M Says Sends quiet halts D) N) P e k outs none c M (λ b N h. each b N h.0 h.1)
      (walks_both R (Went k M Says Sends (Down k M Says Sends quiet halts D)) e k outs (Up R k v) (λ b N. Went k M Says Sends
      (UpBy k M Says Sends quiet halts D v) (up k b v N)) c M known (went k M Says Sends quiet halts D e v outs c all fits))
