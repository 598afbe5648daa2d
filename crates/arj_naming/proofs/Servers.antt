-- A hello that is told to the objects under its node is told to all.
use Rattle.std.proofs.Common.{◌≡◌, ◌∙◌, ◌==◌, ◌&&◌, ◌⊎◌, inl, inr, ℕ, Bool, true, false, not, cond, List, [], ◌∷◌, map, filter, refl, sym}
use Rattle.std.proofs.Common.{ap, subst, Some, None}
use Rattle.std.proofs.Math.Logic.{⊎_elim}
use Rattle.std.specs.Prelude.{Option, option_map, nat_le, IsSome}
use Rattle.std.specs.BTreeMap.{is_at}
use Rattle.std.specs.BTreeSet.{BTreeSet}
use Rattle.std.specs.Cmp.{nat_cmp_total}
use Rattle.std.specs.Map.{set_value}
use Rattle.std.specs.Ordering.{is_eq, nat_cmp}
use Rattle.std.proofs.lemmas.Bool.{eq-eqb, eqb-true}
use Rattle.std.proofs.lemmas.Map.Made.{lookup-map_values}
use Rattle.std.proofs.lemmas.Map.Views.{any-filter_same}
use Rattle.arj_base.specs.declared.mode.End.{End}
use Rattle.arj_base.specs.declared.mode.End.TheVariants as ending
use Rattle.arj_base.specs.declared.state.ObjectState.{ObjectState}
use Rattle.arj_base.specs.declared.uid.Uid.{Uid}
use Rattle.arj_naming.proofs.Quiet.{tied}
use Rattle.arj_naming.proofs.Written.{written_at}
use Rattle.arj_naming.specs.Bound.{AreBound, is_to, is_under, live_at, live_in}
use Rattle.arj_naming.specs.Touched.{changed_at, is_in, is_in_set}
use Rattle.arj_protocol.specs.Confirm.{named_back}
use Rattle.arj_protocol.specs.Effect.{Pair}
use Rattle.arj_protocol.specs.Named.{Live, Named, end_named, hello_named, live_after}
use Rattle.arj_protocol.specs.Order.{at_number, each}

-- ---- live bindings

ended_in : (u : Uid) (e : End) (o : Option Named) → live_in (option_map (end_named u e) o) ≡ live_in o
ended_in u e None = refl
ended_in u ending.Commit (Some o) = refl
ended_in u ending.Abort (Some o) = refl

-- an end changes no live binding
pub ended_live : (u : Uid) (e : End) (m : List (ℕ × Named)) (q : ℕ) → live_at q (each (λ x. end_named u e) m) ≡ live_at q m
ended_live u e m q = ap live_in (lookup-map_values (end_named u e) (is_at (nat_cmp q)) m) ∙ ended_in u e (at_number q m)

-- none is known after a restart
none_live : (d : Pair) (held : List (Uid × ObjectState)) (q : ℕ) → live_at q (map (named_back d) held) ≡ None
none_live d [] q = refl
none_live d (e ∷ es) q = by (is_eq (nat_cmp q e.0.num)) (none_live d es q)
  where
    by : (b : Bool) → live_at q (map (named_back d) es) ≡ None →
        live_in (cond b (Some (named_back d e).1) (at_number q (map (named_back d) es))) ≡ None
    by true rest = refl
    by false rest = rest

-- so nothing is bound
pub bound_back : (d : Pair) (objects : List (ℕ × Named)) (bound : List (ℕ × BTreeSet ℕ)) → objects ≡ map (named_back d) d.held →
    AreBound objects bound
bound_back d objects bound is = λ q l live. let never : None ≡ Some l = sym (none_live d d.held q) ∙ (ap (live_at q) (sym is) ∙ live) in cc

-- ---- a server that is up again

module _ (node inc : ℕ) where
  left : (l : Option Live) → is_to node l ≡ false → live_after node inc l ≡ l
  left None isnt = refl
  left (Some l) isnt = λ i. cond (isnt i && not (nat_le inc l.inc)) None (Some l)

  stays : (l : Option Live) (k : Live) → live_after node inc l ≡ Some k → l ≡ Some k
  stays None k is = is
  stays (Some l) k is = by ((l.server == node) && not (nat_le inc l.inc)) is
    where
      by : (b : Bool) → cond b None (Some l) ≡ Some k → Some l ≡ Some k
      by true is = cc
      by false is = is

  module _ (m : List (ℕ × Named)) (bound : List (ℕ × BTreeSet ℕ)) (are : AreBound m bound) where
    reached : (q : ℕ) (p : Named) → at_number q m ≡ Some p → (hello_named node inc p ≡ p) ⊎ (is_under bound node q ≡ true)
    reached q p at = by p.live refl
      where
        to : (l : Live) → p.live ≡ Some l → (b : Bool) → (l.server == node) ≡ b →
            (hello_named node inc p ≡ p) ⊎ (is_under bound node q ≡ true)
        to l is true same = inr ((λ i. is_under bound (sym (eqb-true l.server node same) i) q) ∙ are q l (ap live_in at ∙ is))
        to l is false other = inl (λ i. record p { live = left p.live (ap (is_to node) is ∙ other) i })

        by : (l : Option Live) → p.live ≡ l → (hello_named node inc p ≡ p) ⊎ (is_under bound node q ≡ true)
        by None is = inl (λ i. record p { live = left p.live (ap (is_to node) is) i })
        by (Some l) is = to l is (l.server == node) refl

    -- so all are told
    pub all_told : (q : ℕ) →
        changed_at (hello_named node inc) (is_under bound node q) (at_number q m) ≡ option_map (hello_named node inc) (at_number q m)
    all_told q = by (is_under bound node q) refl (at_number q m) refl
      where
        by : (b : Bool) → is_under bound node q ≡ b → (o : Option Named) → at_number q m ≡ o →
            changed_at (hello_named node inc) b o ≡ option_map (hello_named node inc) o
        by true is o at = refl
        by false is None at = refl
        by false is (Some p) at =
            ⊎_elim (λ (same : hello_named node inc p ≡ p). ap (λ n. Some n) (sym same)) (λ (on : is_under bound node q ≡ true). let no_way : true ≡ false = sym on ∙ is in cc) (reached q p at)

    after_in : (o : Option Named) → live_in (option_map (hello_named node inc) o) ≡ live_after node inc (live_in o)
    after_in None = refl
    after_in (Some o) = refl

    -- and those that are bound still are found
    pub still_bound : (new : List (ℕ × Named)) (kept : List (ℕ × BTreeSet ℕ)) → new ≡ each (λ x. hello_named node inc) m
        → ((q : ℕ) (l : Live) → live_at q new ≡ Some l → is_under bound l.server q ≡ true → is_under kept l.server q ≡ true) →
        AreBound new kept
    still_bound new kept is stay = λ q l live.
        let before : live_at q m ≡ Some l =
        stays (live_at q m) l (sym (after_in (at_number q m)) ∙ (sym (ap live_in (lookup-map_values (hello_named node inc) (is_at (nat_cmp q)) m)) ∙ (ap (live_at q) (sym is) ∙ live))) in
        stay q l live (are q l before)

-- ---- under the nodes

-- what passes a test is found among those that pass
pub in_passed : (p : ℕ → Bool) (xs : List ℕ) (q : ℕ) → is_in xs q ≡ true → p q ≡ true → is_in (filter p xs) q ≡ true
in_passed p xs q among passes = any-filter_same (is_at (nat_cmp q)) p true (λ k is. (λ i. p (sym (tied q k is) i)) ∙ passes) xs ∙ among

-- those of a node that are bound to it still stand under it
pub kept_under : (node : ℕ) (m : List (ℕ × Named)) (xs kept : BTreeSet ℕ) (bound new : List (ℕ × BTreeSet ℕ)) →
    at_number node bound ≡ Some xs → new ≡ set_value (is_at (nat_cmp node)) bound kept
    → kept.keys ≡ filter (λ x. is_to node (live_at x m)) xs.keys → (q : ℕ) (l : Live) → live_at q m ≡ Some l →
    is_under bound l.server q ≡ true → is_under new l.server q ≡ true
kept_under node m xs kept bound new at written keys q l live under =
    by (is_eq (nat_cmp node l.server)) refl (ap (at_number l.server) written ∙ written_at nat_cmp nat_cmp_total tied node kept bound (subst IsSome (sym at) refl) l.server)
  where
    by : (b : Bool) → is_eq (nat_cmp node l.server) ≡ b → at_number l.server new ≡ cond b (Some kept) (at_number l.server bound) →
        is_under new l.server q ≡ true
    by true is found =
        let before : at_number l.server bound ≡ Some xs = (λ i. at_number (sym (tied node l.server is) i) bound) ∙ at in
        let among : is_in xs.keys q ≡ true = sym (ap (is_in_set q) before) ∙ under in
        let passes : is_to node (live_at q m) ≡ true = ap (is_to node) live ∙ eq-eqb l.server node (sym (tied node l.server is)) in
        ap (is_in_set q) found ∙ ((λ i. is_in (keys i) q) ∙ in_passed (λ x. is_to node (live_at x m)) xs.keys q among passes)
    by false is found = ap (is_in_set q) found ∙ under
