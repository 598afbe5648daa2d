-- While naming serves a Confirm that names its own grants, nobody has the entry prepared of an object for which the top includes a store,
-- or of whose entry the exclude lock is free for it.
use Rattle.arj_law_parts.proofs.Words
use Words.{◌≡◌, ◌≤◌, ◌==◌, ◌||◌, ℕ, List, [], ◌∷◌, Bool, true, false, cond, Option, Some, None, refl, sym, ◌∙◌, ap, inl, inr}
use Words.{⊎_elim, arith, filter, find, option_map, if◌then◌else◌, is_eq, uid_is, Uid, ObjectState, Path, entry, is_listed, is_on}
use Words.{uid_eq, top_of, Grants, Marks, first_of_each, marked, other_grant, Pair, holder_of, names_object, Named, Naming, is_over}
use Words.{at_number}
use Words.{at_uid, without_uid, uid_number}
use Words.confirmed
use Words.mode
use Words.what
use Rattle.arj_law_disk_view.proofs.Terms
use Terms.{HasRow, IsUntold, Names, Office, State, Packed, Hold, has, never, or_cases, or_left, or_right, test_is, AreSorted, HasNone}
use Terms.{SeesPair, SeesEntry, SeesNaming, IsOfTop, Kinds, ClaimsConfirm, CountsOnGrants, HasGrant, packed_entry, Core}
use Terms.mail
use Terms.names
use Rattle.arj_law_disk.proofs.machine.Kin.{one_top, weaker_row}
use Rattle.arj_law_disk_view.proofs.names.{Binding.path_untold, Locks.is_free}
use Rattle.arj_law_disk_view.proofs.view.{ConfirmWalks.both_none, ConfirmWalks.has_listed, PairSteps.none_held}
use Rattle.arj_law_disk_view.proofs.view.Keys as keys
use Rattle.arj_protocol.specs.Named.{conflict_on}

-- ---- who has prepared

-- a list that names an object has a state of it
named_none : (u : Uid) (states : List ObjectState) → names_object u states ≡ true → HasNone u states → ⊥
named_none u [] is none = cc is
named_none u (s ∷ ss) is none = ⊎_elim (λ here. none s (inl refl, uid_is s.uid u here))
    (λ more. named_none u ss more (λ q of. none q (inr of.0, of.1))) (or_cases (uid_eq s.uid u) (names_object u ss) is)

unfound : (u : Uid) (m : List (Uid × List ObjectState)) → AreSorted m → ((a : Uid) (states : List ObjectState) → at_uid a m ≡ Some states →
    HasNone u states) → find (λ (p : Uid × List ObjectState). names_object u p.1) m ≡ None
unfound u [] sorted none = refl
unfound u (e ∷ es) sorted none = by (names_object u e.1) refl (λ each. unfound u es sorted.1 each)
  where
    without_first : without_uid e.0 (e ∷ es) ≡ es
    without_first = ap (λ r. cond (is_eq r) es (e ∷ without_uid e.0 es)) (keys.order_itself e.0)

    behind : (a : Uid) (states : List ObjectState) → at_uid a es ≡ Some states → HasNone u states
    behind a states at = none a states (keys.without_cases a e.0 states (e ∷ es) sorted (ap (at_uid a) without_first ∙ at)).1

    by : (b : Bool) → names_object u e.1 ≡ b → (((a : Uid) (states : List ObjectState) → at_uid a es ≡ Some states → HasNone u states) →
        find (λ (p : Uid × List ObjectState). names_object u p.1) es ≡ None) →
        cond b (Some e) (find (λ (p : Uid × List ObjectState). names_object u p.1) es) ≡ None
    by true is ih = absurd (named_none u e.1 is (none e.0 e.1 (keys.at_here e.0 e.1 es)))
    by false is ih = ih behind

-- where the machine's place has nothing prepared, no action has
pub unheld : (u : Uid) (d : Pair) (pack : ObjectState → Packed) (held : Option Packed) (pend : Option Hold) → SeesPair pack u d held pend →
    pend ≡ None → holder_of u d ≡ None
unheld u d pack held pend sees free = ap (option_map (λ (p : Uid × List ObjectState). p.0)) (unfound u d.pend sees.sorted
    (λ a states at. none_held pack u d held pend sees free a states at))

-- ---- grants

-- a grant that the Confirm names is of naming's incarnation
grant_now : (n : Naming) (x g : ℕ) (grants : Grants) → first_of_each (other_grant n) grants ≡ None → HasGrant x g grants → g ≡ n.inc
grant_now n x g [] h has_it = absurd has_it
grant_now n x g (k ∷ ks) h (inl same) = by (k.1 == n.inc) refl (both_none (other_grant n k) (first_of_each (other_grant n) ks) h).0
  where
    by : (b : Bool) → (k.1 == n.inc) ≡ b → (if b then None else Some (confirmed.Changed (what.Inc k.1 n.inc))) ≡ None → g ≡ n.inc
    by true e f = ap (λ (q : ℕ × ℕ). q.1) (sym same) ∙ test_is k.1 n.inc e
    by false e f = absurd (cc f)
grant_now n x g (k ∷ ks) h (inr more) = grant_now n x g ks (both_none (other_grant n k) (first_of_each (other_grant n) ks) h).1 more

-- what a filter leaves was there
from_filtered : (f : ℕ → Bool) (s : ℕ) (l : List ℕ) → has s (filter f l) ≡ true → has s l ≡ true
from_filtered f s [] on = on
from_filtered f s (r ∷ rs) on = by (f r) on (from_filtered f s rs)
  where
    by : (b : Bool) → has s (cond b (r ∷ filter f rs) (filter f rs)) ≡ true → (has s (filter f rs) ≡ true → has s rs ≡ true) →
        ((r == s) || has s rs) ≡ true
    by true is ih = ⊎_elim (λ same. or_left (r == s) (has s rs) same) (λ more. or_right (r == s) (has s rs) (ih more))
        (or_cases (r == s) (has s (filter f rs)) is)
    by false is ih = or_right (r == s) (has s rs) (ih is)

-- ---- naming serves a Confirm

module _ (x : ℕ) (tops : Kinds) (p : Path) (grants : Grants) (excluded included : Marks) (d : Pair) (n : Naming) (A : Office)
    (c : names.Named A) (sees : SeesNaming x tops n A.world.disk A.names) (here : SeesEntry x d A.world.disk)
    (of : IsOfTop tops A.world.disk p) (claims : ClaimsConfirm x A.world (uid_number (top_of p)) grants excluded included)
    (counts : CountsOnGrants x A.world.disk A.names (uid_number (top_of p)) grants) (off : is_over p n ≡ false)
    (unconfirmed : is_on n.confirmed (top_of p) ≡ false) (own : first_of_each (other_grant n) grants ≡ None) where
  abbrev t : ℕ
  t = uid_number (top_of p)

  abbrev S : State
  S = A.world.disk

  abbrev N : Names
  N = A.names

  core : Core S
  core = c.whole.core

  begun : S.begun t ≡ true
  begun = (c.whole.mail (mail.Confirm t) claims.asked).0

  untold : IsUntold S N t
  untold = path_untold x tops n S N p sees of off

  new : N.confd t ≡ false
  new = sym (sees.confirmed_is (top_of p) (λ nested. never of.top nested.0) untold.0) ∙ unconfirmed

  -- its own entry isn't prepared
  other_top : (h : Hold) → S.entry_pend ≡ Some h → h.top ≡ t → ⊥
  other_top h q same = by (c.rows.guard h q)
    where
      by : HasRow N h.top 1 × (N.told h.top ≡ false) × (N.confd h.top ≡ true) → ⊥
      by (row, told, conf) = never conf (ap N.confd same ∙ new)

  -- nor is another one where it has a lock
  no_other : (h : Hold) → S.entry_pend ≡ Some h → HasRow N t 1 → ⊥
  no_other h q row = by row (c.rows.guard h q)
    where
      by : HasRow N t 1 → HasRow N h.top 1 × (N.told h.top ≡ false) × (N.confd h.top ≡ true) → ⊥
      by (m, mine, low) ((k, theirs, also), told, conf) = other_top h q (sym (one_top S c.roots t h.top of.plain
          (c.roots.tops h.top (core.fresh.entry h q)) (c.rows.apart t h.top m k mine theirs (omega (arith, low, also)))))

  none_from : ((h : Hold) → S.entry_pend ≡ Some h → ⊥) → S.entry_pend ≡ None
  none_from each = by S.entry_pend refl
    where
      by : (o : Option Hold) → S.entry_pend ≡ o → S.entry_pend ≡ None
      by None q = q
      by (Some h) q = absurd (each h q)

  is_now : (i : ℕ) → i ≤ N.inc → (g : ℕ) × HasGrant x g grants × (g ≤ i) → i ≡ N.inc
  is_now i past g = let now : g.0 ≡ n.inc = grant_now n x g.0 grants own g.1 in omega (arith, now, past, g.2, sees.inc_is)

  -- who includes a store has the write lock
  join_row : (s : ℕ) → has s (S.plan t).joins ≡ true → HasRow N t 2
  join_row s j =
      let a = c.plans.asked t s begun j in
      c.rows.asked t (a.2 (is_now a.0 (c.grants.past t a.0 a.1) (counts.own (inr (s, j)) a.0 a.1)) untold) untold

  pub joined_free : (s : ℕ) → is_listed s (marked x included) ≡ true → S.entry_pend ≡ None
  joined_free s on = none_from (λ h q. no_other h q (weaker_row N t 2 1 (omega arith) (join_row s (from_filtered (S.got t) s
      (S.plan t).joins
      (ap (has s) (sym claims.says.joins) ∙ sym (has_listed s (marked x included)) ∙ on)))))

  -- where the exclude lock is free, nobody else has one
  pub locked_free : (o : Named) → at_number x n.objects ≡ Some o → conflict_on x p mode.Exclude o ≡ None → S.entry_pend ≡ None
  locked_free o there none = none_from (λ h q. by h q (c.rows.guard h q))
    where
      by : (h : Hold) → S.entry_pend ≡ Some h → HasRow N h.top 1 × (N.told h.top ≡ false) × (N.confd h.top ≡ true) → ⊥
      by h q ((k, theirs, also), told, conf) = ⊎_elim (λ same. other_top h q same)
          (λ root. other_top h q (sym (one_top S c.roots t h.top of.plain (c.roots.tops h.top (core.fresh.entry h q)) (inr (inl
          (sym root))))))
          (is_free x tops o.rows S N p mode.Exclude (sees.object o there).rows of none h.top k theirs (omega (arith, also)))

  -- and then the pair has none prepared
  pub unheld_so : S.entry_pend ≡ None → holder_of (entry x) d ≡ None
  unheld_so free = unheld (entry x) d packed_entry (Some S.entry) S.entry_pend here.pair free
