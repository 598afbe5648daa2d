-- Known states, and the last one.
use Rattle.arj_law_disk.proofs.Terms
use Terms.{◌≡◌, ◌⊎◌, ℕ, ◌+◌, ◌<◌, List, [], ◌∷◌, Bool, true, false, cond, ◌==◌, Option, Some, None, refl, sym, ◌∙◌, ap, subst, inl, inr}
use Terms.{arith, unwrap_or, Chain, History, Decide, changed, State, Packed, Hold, Done, last_in, last, KnownIn, Known, Below, effective_by}
use Terms.{decided_in, is_latest_in, IsPast, In}
use Rattle.arj_law_disk.proofs.machine.Base.{test_same, test_is, or_left, or_right}

-- a known state isn't above the last one
pub known_last : (first : Packed) (ds : List Done) (g : Packed) → Chain first ds → KnownIn first ds g → Below g (last_in first ds)
known_last first [] g chain known = inr (sym known)
known_last first (d ∷ ds) g chain known = by (known_last first ds g chain.1) d.plan.writes refl known
  where
    by : (KnownIn first ds g → Below g (last_in first ds)) → (o : Option Packed) → d.plan.writes ≡ o → (o ≡ Some g) ⊎ KnownIn first ds g →
        Below g (unwrap_or o (last_in first ds))
    by ih None e (inl is) = let n : ◌≡◌ {A = Option Packed} None (Some g) = is in cc
    by ih None e (inr k) = ih k
    by ih (Some w) e (inl is) = let s : w ≡ g = cc in inr (sym s)
    by ih (Some w) e (inr k) = inl (above (ih k))
      where
        next : w.version ≡ (last_in first ds).version + 1
        next = chain.0 w e

        above : Below g (last_in first ds) → g.version < w.version
        above (inl less) = omega (arith, less, next)
        above (inr is) = omega (arith, ap (λ x. x.version) is, next)

-- where nothing is older
pub nothing_past : (first : Packed) → IsPast first []
nothing_past first = record { below = λ g i. absurd i; version = λ g h i. absurd i; writer = by }
  where
    by : (g h : Packed) → In g (first ∷ []) → In h (first ∷ []) → g.writer ≡ h.writer → g ≡ h
    by g h (inl a) (inl b) same = sym a ∙ b
    by g h (inl a) (inr j) same = absurd j
    by g h (inr i) _ same = absurd i

-- the first state was the last one
first_known : (first : Packed) (ds : List Done) → KnownIn first ds first
first_known first [] = refl
first_known first (d ∷ ds) = inr (first_known first ds)

-- a known state, and an older one, isn't above the last one
pub below_last : (first : Packed) (past : List Packed) (ds : List Done) (g : Packed) → Chain first ds → IsPast first past →
    KnownIn first ds g ⊎ In g past → Below g (last_in first ds)
below_last first past ds g chain older (inl known) = known_last first ds g chain known
below_last first past ds g chain older (inr old) = inl (by (known_last first ds first chain (first_known first ds)))
  where
    by : Below first (last_in first ds) → g.version < (last_in first ds).version
    by (inl less) = omega (arith, older.below g old, less)
    by (inr is) = omega (arith, older.below g old, ap (λ (x : Packed). x.version) is)

-- so it is of an object
pub known_below : (S : State) (g : Packed) → History S → Known S g → Below g (last S)
known_below S g h known = below_last S.first S.past S.tops g h.chain h.past known

-- what is known stays so when a top is decided
pub known_more : (S : State) (t : ℕ) (g : Packed) → Known S g → Known (changed S (Decide t)) g
known_more S t g (inl known) = inl (inr known)
known_more S t g (inr old) = inr old

-- the last state was the last one
pub last_known : (first : Packed) (ds : List Done) → KnownIn first ds (last_in first ds)
last_known first [] = refl
last_known first (d ∷ ds) = by (last_known first ds) d.plan.writes refl
  where
    by : KnownIn first ds (last_in first ds) → (o : Option Packed) → d.plan.writes ≡ o →
        (d.plan.writes ≡ Some (unwrap_or o (last_in first ds))) ⊎ KnownIn first ds (unwrap_or o (last_in first ds))
    by ih None e = inr ih
    by ih (Some w) e = inl e

-- what a place will hold, by what is prepared there
pub effective_none : {A : Type 0} (done : ℕ → Bool) (some : Packed → A) (o : Option Hold) (held : A) → o ≡ None →
    effective_by done some o held ≡ held
effective_none done some o held e = rw e

pub effective_done : {A : Type 0} (done : ℕ → Bool) (some : Packed → A) (o : Option Hold) (h : Hold) (held : A) → o ≡ Some h →
    done h.top ≡ true → effective_by done some o held ≡ some h.new
effective_done done some o h held e d = rw (e, d)

pub effective_open : {A : Type 0} (done : ℕ → Bool) (some : Packed → A) (o : Option Hold) (h : Hold) (held : A) → o ≡ Some h →
    done h.top ≡ false → effective_by done some o held ≡ held
effective_open done some o h held e d = rw (e, d)

-- a decision's top is decided, and the other way round
pub in_decided : (ds : List Done) (d : Done) → In d ds → decided_in ds d.top ≡ true
in_decided [] d i = absurd i
in_decided (e ∷ ds) d (inl is) =
    or_left (e.top == d.top) (decided_in ds d.top) (subst (λ (x : Done). (x.top == d.top) ≡ true) (sym is) (test_same d.top))
in_decided (e ∷ ds) d (inr i) = or_right (e.top == d.top) (decided_in ds d.top) (in_decided ds d i)

-- the newest decision that counts is the top's, with the last state if it wrote
pub latest_is : (first : Packed) (ds : List Done) (t : ℕ) → ((d : Done) → In d ds → d.counts ≡ false → d.plan.writes ≡ None) →
    is_latest_in ds t ≡ true
    → (d : Done) × In d ds × (d.top ≡ t) × (d.counts ≡ true) × ((w : Packed) → d.plan.writes ≡ Some w → last_in first ds ≡ w)
latest_is first [] t plain h = let n : false ≡ true = h in cc
latest_is first (e ∷ ds) t plain h = by (latest_is first ds t (λ d i. plain d (inr i))) e.counts refl h
  where
    Found : Type 0
    Found =
        (d : Done) × In d (e ∷ ds) × (d.top ≡ t) × (d.counts ≡ true) × ((w : Packed) → d.plan.writes ≡ Some w → last_in first (e ∷ ds) ≡ w)

    by : (is_latest_in ds t ≡ true → (d : Done) × In d ds × (d.top ≡ t) × (d.counts ≡ true) × ((w : Packed) → d.plan.writes ≡ Some w →
        last_in first ds ≡ w)) → (b : Bool) → e.counts ≡ b → cond b (e.top == t) (is_latest_in ds t) ≡ true → Found
    by ih true c h = (e, inl refl, test_is e.top t h, c, λ w is. ap (λ o. unwrap_or o (last_in first ds)) is)
    by ih false c h = let r = ih h in
        (r.0, inr r.1, r.2, r.3, λ w is. ap (λ o. unwrap_or o (last_in first ds)) (plain e (inl refl) c) ∙ r.4 w is)
