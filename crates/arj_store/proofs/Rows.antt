-- What the calls of a store did, as rows of effects.
use Rattle.std.proofs.Common.{◌≡◌, ◌⊎◌, ◌∙◌, Bool, true, false, ◌||◌, ◌&&◌, List, [], ◌∷◌, ◌++◌, ℕ, refl, sym, ap, subst, inl, inr, ⊎_elim}
use Rattle.std.proofs.Common.{map, filter, cond, Option, Some, None}
use Rattle.std.specs.Prelude.{IsSome, is_some, MatchOption, if◌then◌else◌}
use Rattle.std.proofs.lemmas.Bool.{cases_Bool}
use Rattle.arj_base.specs.Uid.{uid_eq}
use Rattle.arj_base.specs.declared.state.ObjectState.{ObjectState}
use Rattle.arj_base.specs.declared.uid.Uid.{Uid}
use Rattle.arj_disk.specs.Says.{new_of}
use Rattle.arj_store.specs.Effects.{Effect, Move, Finish, Drop, MovesOne, Does, Row, objects, commit_row, DidPrepare, DidCommit, DidSome}
use Rattle.arj_store.specs.Effects.{DidAbort}
use Rattle.arj_store.specs.Pair.{Pair, SamePair, Drops, Moves, MovesSome, Prepares, newer, held_after}
use Rattle.arj_store.specs.Shadow.{is_in}
use Rattle.arj_store.proofs.Uids.{uid_same, uid_is, uid_other}

-- pairs that are the same everywhere are the same
same_pairs : (p q : Pair) → SamePair p q → p ≡ q
same_pairs p q same = λ i. record { held = λ u. sym (same.committed u) i; pend = λ a. sym (same.prepared a) i }

row_then : (es : List Effect) (e : Effect) (p m q : Pair) → Row es p m → Does e m q → Row (es ++ e ∷ []) p q
row_then [] e p m q row does =
    (q, subst (λ r. Does e r q) (sym (same_pairs p m row)) does, record { committed = λ u. refl; prepared = λ a. refl })
row_then (f ∷ es) e p m q row does = (row.0, row.1, row_then es e row.0 m q row.2 does)

-- a new state doesn't go by what was there
newer_any : (o a b : Option (List ℕ)) → IsSome o → newer o a ≡ newer o b
newer_any None a b is = let never : false ≡ true = is in cc
newer_any (Some x) a b is = refl

head_in : (us : List Uid) (w : Uid) → is_in (w ∷ us) w ≡ true
head_in us w = ap (λ b. b || is_in us w) (uid_same w)

rest_in : (a b : Bool) → b ≡ true → (a || b) ≡ true
rest_in true b is = refl
rest_in false b is = is

-- the pair with one object's state from another pair
abbrev with_one : Pair → Pair → Uid → Pair
with_one p q w = record { held = λ u. if uid_eq u w then q.held w else p.held u; pend = p.pend }

one_here : (p q : Pair) (w u : Uid) → uid_eq u w ≡ true → (with_one p q w).held u ≡ q.held w
one_here p q w u e = rw e refl

one_other : (p q : Pair) (w u : Uid) → uid_eq u w ≡ false → (with_one p q w).held u ≡ p.held u
one_other p q w u e = rw e refl

-- the states of these objects are moved, and those of the others not
row_of : (act : Uid) (states : List (Uid × List ℕ)) (us : List Uid) (p q : Pair) → p.pend act ≡ Some states →
    ((a : Uid) → q.pend a ≡ p.pend a)
    → ((u : Uid) → is_in us u ≡ true → IsSome (new_of states u) × (q.held u ≡ newer (new_of states u) (p.held u))) →
    ((u : Uid) → is_in us u ≡ false → q.held u ≡ p.held u)
    → Row (map (Move act) us) p q
row_of act states [] p q is pend moved same = record { committed = λ u. same u refl; prepared = pend }
row_of act states (w ∷ ws) p q is pend moved same = (m, one, row_of act states ws m q is pend rest others)
  where
    m : Pair
    m = with_one p q w

    one : MovesOne p m act w
    one = record {
      prepared = rw is (moved w (head_in ws w)).0;
      here = one_here p q w w (uid_same w) ∙ (moved w (head_in ws w)).1 ∙ ap (λ o. held_after o w (p.held w)) (sym is);
      others = λ u other. one_other p q w u (uid_other u w other);
      pending = λ a. refl;
    }

    rest : (u : Uid) → is_in ws u ≡ true → IsSome (new_of states u) × (q.held u ≡ newer (new_of states u) (m.held u))
    rest u among =
        let all = moved u (rest_in (uid_eq u w) (is_in ws u) among) in (all.0, all.1 ∙ newer_any (new_of states u) (p.held u) (m.held u) all.0)

    others : (u : Uid) → is_in ws u ≡ false → q.held u ≡ m.held u
    others u out = ⊎_elim (λ (e : uid_eq u w ≡ true). ap q.held (uid_is u w e) ∙ sym (one_here p q w u e))
        (λ (e : uid_eq u w ≡ false). same u (ap (λ b. b || is_in ws u) e ∙ out) ∙ sym (one_other p q w u e)) (cases_Bool (uid_eq u w))

-- an object is among the objects of states where these have a new state of it
pub new_among : (states : List (Uid × List ℕ)) (u : Uid) → is_some (new_of states u) ≡ is_in (objects states) u
new_among [] u = refl
new_among (e ∷ es) u = by (uid_eq u e.0) refl (new_among es u)
  where
    by : (b : Bool) → uid_eq u e.0 ≡ b → is_some (new_of es u) ≡ is_in (objects es) u →
        is_some (cond (uid_eq u e.0) (Some e.1) (new_of es u)) ≡ (uid_eq u e.0 || is_in (objects es) u)
    by true is rest = rw is refl
    by false is rest = rw is rest

none_new : (o a : Option (List ℕ)) → is_some o ≡ false → newer o a ≡ a
none_new None a is = refl
none_new (Some x) a is = let never : true ≡ false = is in cc

-- what is moved once stays moved
moved_again : (o a : Option (List ℕ)) → newer o a ≡ newer o (newer o a)
moved_again None a = refl
moved_again (Some x) a = refl

pub did_prepare : (p q : Pair) (act : Uid) (states : List ObjectState) → SamePair p q ⊎ Prepares p q act states → DidPrepare p q act states
did_prepare p q act states =
    ⊎_elim (λ (same : SamePair p q). inl same) (λ (h : Prepares p q act states). inr (
      q,
      (h.first, h.adds),
      record {
        committed =
            λ u. refl;
        prepared = λ a. refl;
      },
    ))

pub did_commit : (p q : Pair) (act : Uid) → Moves p q act → DidCommit p q act
did_commit p q act moves = by (p.pend act) refl
  where
    by : (o : Option (List (Uid × List ℕ))) → p.pend act ≡ o → MatchOption o (Row [] p q) (λ states. Row (commit_row act states) p q)
    by None is = record {
      committed = λ u. moves.committed u ∙ ap (λ o. held_after o u (p.held u)) is;
      prepared = λ a. prepared a (cases_Bool (uid_eq a act));
    }
      where
        prepared : (a : Uid) → (uid_eq a act ≡ true) ⊎ (uid_eq a act ≡ false) → q.pend a ≡ p.pend a
        prepared a = ⊎_elim (λ (e : uid_eq a act ≡ true). ap q.pend (uid_is a act e) ∙ moves.gone ∙ sym is ∙ sym (ap p.pend (uid_is a act e)))
            (λ (e : uid_eq a act ≡ false). moves.others a (λ same. let never : true ≡ false =
            sym (uid_same act) ∙ ap (λ b. uid_eq b act) (sym same) ∙ e in cc))
    by (Some states) is = row_then (map (Move act) (objects states)) (Finish act) p mid q all ((ap is_some is), finished, dropped)
      where
        mid : Pair
        mid = record { held = q.held; pend = p.pend }

        now : (u : Uid) → q.held u ≡ newer (new_of states u) (p.held u)
        now u = moves.committed u ∙ ap (λ o. held_after o u (p.held u)) is

        all : Row (map (Move act) (objects states)) p mid
        all = row_of act states (objects states) p mid is (λ a. refl) (λ u among. (new_among states u ∙ among, now u))
            (λ u out. now u ∙ none_new (new_of states u) (p.held u) (new_among states u ∙ out))

        finished : (u : Uid) → q.held u ≡ held_after (p.pend act) u (q.held u)
        finished u = now u ∙ moved_again (new_of states u) (p.held u) ∙ ap (newer (new_of states u)) (sym (now u)) ∙ ap (λ o. held_after o u (q.held u)) (sym is)

        dropped : Drops mid q act
        dropped = record { committed = λ u. refl; gone = moves.gone; others = moves.others }

-- of a list those that are moved
in_those : (test : Uid → Bool) (us : List Uid) (u : Uid) → is_in (filter test us) u ≡ (is_in us u && test u)
in_those test [] u = refl
in_those test (w ∷ ws) u = by (test w) (uid_eq u w) refl refl (in_those test ws u)
  where
    by : (t e : Bool) → test w ≡ t → uid_eq u w ≡ e → is_in (filter test ws) u ≡ (is_in ws u && test u) →
        is_in (filter test (w ∷ ws)) u ≡ ((uid_eq u w || is_in ws u) && test u)
    by true true t e rest = rw t (rw e (sym (ap test (uid_is u w e) ∙ t)))
    by true false t e rest = rw t (rw e rest)
    by false true t e rest = rw t (rw e (rest ∙ none (is_in ws u) (test u) (ap test (uid_is u w e) ∙ t) ∙ sym (ap test (uid_is u w e) ∙ t)))
      where
        none : (a b : Bool) → b ≡ false → (a && b) ≡ false
        none true b is = is
        none false b is = refl
    by false false t e rest = rw t (rw e rest)

both : (a b : Bool) → (a && b) ≡ true → (a ≡ true) × (b ≡ true)
both true b is = (refl, is)
both false b is = let never : false ≡ true = is in cc

not_both : (a b : Bool) → (a && b) ≡ false → (a ≡ false) ⊎ (b ≡ false)
not_both true b is = inr is
not_both false b is = inl refl

pub did_some : (p q : Pair) (act : Uid) → MovesSome p q act → DidSome p q act
did_some p q act some = by (p.pend act) refl
  where
    by : (o : Option (List (Uid × List ℕ))) → p.pend act ≡ o → (us : List Uid) × Row (map (Move act) us) p q
    by None is = (
      [],
      record {
        committed =
            λ u. ⊎_elim (λ (h : q.held u ≡ p.held u). h) (λ (h : q.held u ≡ held_after (p.pend act) u (p.held u)). h ∙ ap (λ o. held_after o u (p.held u)) is) (some.committed u);
        prepared = some.prepared;
      },
    )
    by (Some states) is =
        (filter was_moved (objects states), row_of act states (filter was_moved (objects states)) p q is some.prepared moved same)
      where
        flag : (u : Uid) → (q.held u ≡ p.held u) ⊎ (q.held u ≡ held_after (p.pend act) u (p.held u)) → Bool
        flag u = ⊎_elim (λ _. false) (λ _. true)

        was_moved : Uid → Bool
        was_moved u = flag u (some.committed u)

        if_moved : (u : Uid) (h : (q.held u ≡ p.held u) ⊎ (q.held u ≡ held_after (p.pend act) u (p.held u))) → flag u h ≡ true →
            q.held u ≡ held_after (p.pend act) u (p.held u)
        if_moved u (inl h) e = let never : false ≡ true = e in cc
        if_moved u (inr h) e = h

        if_same : (u : Uid) (h : (q.held u ≡ p.held u) ⊎ (q.held u ≡ held_after (p.pend act) u (p.held u))) → flag u h ≡ false →
            q.held u ≡ p.held u
        if_same u (inl h) e = h
        if_same u (inr h) e = let never : true ≡ false = e in cc

        moved : (u : Uid) → is_in (filter was_moved (objects states)) u ≡ true →
            IsSome (new_of states u) × (q.held u ≡ newer (new_of states u) (p.held u))
        moved u among =
            let parts = both (is_in (objects states) u) (was_moved u) (sym (in_those was_moved (objects states) u) ∙ among) in
            (new_among states u ∙ parts.0, if_moved u (some.committed u) parts.1 ∙ ap (λ o. held_after o u (p.held u)) is)

        same : (u : Uid) → is_in (filter was_moved (objects states)) u ≡ false → q.held u ≡ p.held u
        same u out = ⊎_elim (λ (h : is_in (objects states) u ≡ false). either_way u (none_new (new_of states u) (p.held u) (new_among states u ∙ h)) (some.committed u)) (λ (h : was_moved u ≡ false). if_same u (some.committed u) h)
            (not_both (is_in (objects states) u) (was_moved u) (sym (in_those was_moved (objects states) u) ∙ out))
          where
            either_way : (u : Uid) → newer (new_of states u) (p.held u) ≡ p.held u →
                (q.held u ≡ p.held u) ⊎ (q.held u ≡ held_after (p.pend act) u (p.held u)) → q.held u ≡ p.held u
            either_way u none =
                ⊎_elim (λ (h : q.held u ≡ p.held u). h) (λ (h : q.held u ≡ held_after (p.pend act) u (p.held u)). h ∙ ap (λ o. held_after o u (p.held u)) is ∙ none)

pub did_abort : (p q : Pair) (act : Uid) → Drops p q act → DidAbort p q act
did_abort p q act drops = by (p.pend act) refl
  where
    by : (o : Option (List (Uid × List ℕ))) → p.pend act ≡ o → MatchOption o (Row [] p q) (λ states. Row (Drop act ∷ []) p q)
    by None is = record { committed = drops.committed; prepared = λ a. prepared a (cases_Bool (uid_eq a act)) }
      where
        prepared : (a : Uid) → (uid_eq a act ≡ true) ⊎ (uid_eq a act ≡ false) → q.pend a ≡ p.pend a
        prepared a = ⊎_elim (λ (e : uid_eq a act ≡ true). ap q.pend (uid_is a act e) ∙ drops.gone ∙ sym is ∙ sym (ap p.pend (uid_is a act e)))
            (λ (e : uid_eq a act ≡ false). drops.others a (λ same. let never : true ≡ false =
            sym (uid_same act) ∙ ap (λ b. uid_eq b act) (sym same) ∙ e in cc))
    by (Some states) is = (q, (ap is_some is, drops), record { committed = λ u. refl; prepared = λ a. refl })
