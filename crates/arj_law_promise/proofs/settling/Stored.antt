-- A store that is asked for a state has one, or an action has it prepared.
use Rattle.arj_law_parts.proofs.Words
use Words.{◌≡◌, ◌∙◌, ◌||◌, ◌==◌, ℕ, Bool, true, false, cond, find, List, [], ◌∷◌, Option, Some, None, refl, sym, ap, subst, inl, inr}
use Words.{⊎_elim, eqb-true, is_some, option_map, AllByRecursion, is_eq, Ordering, Less, Equal, Greater, or_cases, uid_order, object}
use Words.{uid_same, Header, ObjectState, Uid, uid_eq, node_at, doing_of, held_at, holder_of, names_object, at_uid, Node, Seen}
use Rattle.arj_law_promise.proofs.Terms.{all_at_uid, some_is, Own, all_each, kind_of, stored, up, HasStored, LoadsFind}
use Rattle.arj_law_promise.proofs.settling
use settling.{Joins.PreparedFrom, Joins.names_number, Knowns.itself, Knowns.never, ListingRuns.HasIt, ListingRuns.ListsAreKnown}
use settling.{Listings.AtHas, Milds.here_is, Milds.the_node, StockParts.AreObjects, Stocks.IsIncluded, Stocks.IsStocked}
use Rattle.arj_law_promise.proofs.waiting.Gives.{IsAt, at_of}

-- states of objects name the object by its number
named_by : (x : ℕ) (ss : List ObjectState) → AreObjects ss → names_number x ss ≡ true → names_object (object x) ss ≡ true
named_by x [] own is = absurd (cc is)
named_by x (s ∷ ss) own is = ⊎_elim
    (λ here. ap (λ b. b || names_object (object x) ss)
    (ap (λ u. uid_eq u (object x)) (own.0 ∙ ap object (eqb-true s.uid.num x here)) ∙ uid_same (object x)))
    (λ rest. second (uid_eq s.uid (object x)) (names_object (object x) ss) (named_by x ss own.1 rest))
    (or_cases (s.uid.num == x) (names_number x ss) is)
  where
    second : (a b : Bool) → b ≡ true → (a || b) ≡ true
    second true b on = refl
    second false b on = on

-- some action that has the object prepared is found
held_by : (x : ℕ) (u : Uid) (ss : List ObjectState) (m : List (Uid × List ObjectState)) → at_uid u m ≡ Some ss →
    names_object (object x) ss ≡ true →
    is_some (option_map (λ (p : Uid × List ObjectState). p.0) (find (λ (p : Uid × List ObjectState). names_object (object x) p.1) m)) ≡ true
held_by x u ss [] is on = absurd (cc is)
held_by x u ss (e ∷ es) is on = by (uid_order u e.0) (names_object (object x) e.1) refl is (λ z. held_by x u ss es z on)
  where
    by : (r : Ordering) (b : Bool) → names_object (object x) e.1 ≡ b → cond (is_eq r) (Some e.1) (at_uid u es) ≡ Some ss →
        (at_uid u es ≡ Some ss → is_some
        (option_map (λ (p : Uid × List ObjectState). p.0) (find (λ (p : Uid × List ObjectState). names_object (object x) p.1) es)) ≡ true)
        → is_some (option_map (λ (p : Uid × List ObjectState). p.0)
        (cond b (Some e) (find (λ (p : Uid × List ObjectState). names_object (object x) p.1) es))) ≡ true
    by r true named it rest = refl
    by Less false named it rest = rest it
    by Equal false named it rest = never (ap (names_object (object x)) (some_is it) ∙ on) named
    by Greater false named it rest = rest it

module _ (hd : Header) (M : Seen) (known : ListsAreKnown hd M) (x j : ℕ) (a : Node) (here : M.nodes j ≡ Some a) where
  first : (b c : Bool) → b ≡ true → (b || c) ≡ true
  first b c is = ap (λ z. z || c) is

  second : (b c : Bool) → c ≡ true → (b || c) ≡ true
  second true c is = refl
  second false c is = is

  stored_here : is_some (held_at (object x) (let d = a.disk in d.store)) ≡ true → HasStored a.disk x
  stored_here on = second (is_some (holder_of (object x) a.disk.store)) (is_some (held_at (object x) a.disk.store)) on

  stock : IsStocked M
  stock = known.0.1.1

  module _ (u : Uid) (included : IsIncluded M u x j) where
    -- what it has prepared of a top that includes it names the object
    prepared_here : (ss : List ObjectState) → at_uid u (let d = a.disk in let s = d.store in s.pend) ≡ Some ss → HasStored a.disk x
    prepared_here ss at_it = first (is_some (holder_of (object x) a.disk.store)) (is_some (held_at (object x) a.disk.store))
        (held_by x u ss a.disk.store.pend at_it (named_by x ss own names))
      where
        asked : (i : ℕ) × PreparedFrom i M.sent u j ss
        asked = stock.pend j a u ss here at_it

        home : u.node ≡ asked.0
        home = let z = asked.1 in (itself M known.0.1.0.0.0.0 asked.0 u j (z.0, z.1, z.2, z.3, z.4, ss, z.5, z.6)).1

        names : names_number x ss ≡ true
        names = let says = known.0.1.0.0.1.1.0 in
            says.named u.node u x j ss included (subst (λ i. PreparedFrom i M.sent u j ss) (sym home) asked.1)

        own : AreObjects ss
        own =
            let n = known.0.1.0.1.0 j a here in
            let s = n.0.store in
            all_each (Own (stored (kind_of hd 0))) (λ (st : ObjectState). st.uid ≡ object st.uid.num) ss (λ st its. its.0)
            (all_at_uid (AllByRecursion (Own (stored (kind_of hd 0)))) u ss a.disk.store.pend s.pend at_it)

    held_here : (o : Option (List ObjectState)) → at_uid u (let d = a.disk in let s = d.store in s.pend) ≡ o → is_some o ≡ true →
        HasStored a.disk x
    held_here None is on = absurd (cc on)
    held_here (Some ss) is on = prepared_here ss is

  has_stored : HasIt M x j → HasStored a.disk x
  has_stored (inl held) = stored_here (held a here)
  has_stored (inr (u, included, decided)) = ⊎_elim
      (λ both. let same = some_is (sym here ∙ both.0.1) in held_here u included (at_uid u a.disk.store.pend) refl
      (ap (λ (z : Node). is_some (at_uid u (let d = z.disk in let s = d.store in s.pend))) same ∙ both.0.2))
      (λ has_it. let same = some_is (sym here ∙ has_it.1) in
      stored_here (ap (λ (z : Node). is_some (held_at (object x) (let d = z.disk in d.store))) same ∙ has_it.2))
      (stock.done u x j included (inl decided))

pub loads_given : (hd : Header) (R : Seen → Type 0) → ((M : Seen) → R M → ListsAreKnown hd M) → LoadsFind R
loads_given hd R to j d t M c u q s k n later r does now is h =
    let known = to (up j d t M) r in
    let from = (let p = h.post in p.from) in
    let at_it : IsAt (up j d t M) from c = at_of (up j d t M) from c h.coord in
    let lists = known.1 in
    let has = lists.steps from at_it.node at_it.parts at_it.found at_it.live u q s (ap (doing_of u) at_it.same ∙ does) now in
    let each = subst (AtHas (HasIt (up j d t M)) s.x) is has in
    let to_here : n ≡ j = sym (ap node_at is) ∙ h.node in
    has_stored hd (up j d t M) known s.x j (the_node j d (Some t)) (here_is j d (Some t) M) (subst (HasIt (up j d t M) s.x) to_here each.0)
