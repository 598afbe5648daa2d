-- What servers vote is used in each run: servers that are named, and calls, together.
use Rattle.arj_law_parts.proofs.Words
use Words.{◌≡◌, ◌≤◌, ◌<◌, ◌==◌, ◌+◌, ◌&&◌, ◌||◌, not, nat_lt, ℕ, List, [], ◌∷◌, ◌++◌, Bool, true, false, cond, Option, Some, None, refl}
use Words.{sym, ◌∙◌, ap, subst, inl, inr, arith, eqb-true, AllByRecursion, and_parts, Ask, Binding, Header, Line, asks, Reply, kept_at}
use Words.{Steps, Coord, Keeping, Root, no_keeping, no_root, root_at, Copy, Disk, Parts, at_number, binding_number, Server, Node, root_of}
use Words.{World, world_by, Seen, see}
use Words.ask
use Words.bound
use Rattle.arj_law_runs.proofs.Terms
use Terms.{Homes, KnowsServers, NamesAsked, NamesReply, Reach, all_at, IsGood, Holds, Keeps, up, bindings_made, Call, call_in, NamesIn}
use Terms.{AreApart, AreBelow, CountFits, Gifts, IsHome, LivesRun, LivesWith, NamesPost, PassesAll, Keeping as KeepingIn}
use Terms.{AllChangesAreCalled, AllVotesAreUsed, HasHomes, KnowsRun, HasReached, IsSoUp, Since, CallsReach}
use Rattle.arj_law_parts.proofs.parts.LivesNamed.{keyed_at}
use Rattle.arj_law_parts.specs.parts.Lives.{IsKeptSo, IsRootSo, IsUnbound, NamesAsk, NamesBind}
use Rattle.arj_law_runs.proofs.calls
use calls.{ChangedCalls.changes_in, CoordSends.asked_call, LivedRuns.lives_given, MadeLines.counts_are_said, MadeLines.fewer}
use calls.{Reaching.kept_holds, Reaching.moves_keep, ServerCalls.some_is, WorldRuns.calls_given, WorldRuns.votes_in}
use calls.Given.{KeepsGiven, both_given, given_more, kept_both, keeps_given, while_given}
use Rattle.arj_law_runs.proofs.kept.{AllRuns.all_keep, Walked.same_number}
use Rattle.arj_law_runs.specs.calls.{Bindings.AreSaid, Bindings.HasFewBindings, Lived.PassesIn, Runs.KnowsFew, Voting.RunsCall}
use Rattle.arj_law_runs.specs.calls.{Voting.RunsVote}

-- ---- the servers that were given

abbrev pub home_in : Gifts → Homes
home_in [] n = 0
home_in (g ∷ gs) n = cond (g.0 == n) g.1 (home_in gs n)

agree_more : (g : ℕ × ℕ) (gs xs : Gifts) → AreBelow g.0 xs → AllByRecursion (λ (f : ℕ × ℕ). home_in gs f.0 ≡ f.1) xs →
    AllByRecursion (λ (f : ℕ × ℕ). home_in (g ∷ gs) f.0 ≡ f.1) xs
agree_more g gs [] below all = tt
agree_more g gs (f ∷ fs) below all = ((λ i. cond (off g.0 f.0 below.0 i) g.1 (home_in gs f.0)) ∙ all.0, agree_more g gs fs below.1 all.1)
  where
    off : (a b : ℕ) → b < a → (a == b) ≡ false
    off a b lt = grind (arith, lt)

pub is_home : (gs : Gifts) → AreApart gs → IsHome gs (home_in gs)
is_home [] apart = record { nobody = refl; agrees = tt }
is_home (g ∷ gs) apart =
    let h = is_home gs apart.2 in
    record {
      nobody = (λ i. cond (off g.0 apart.0 i) g.1 (home_in gs 0)) ∙ h.nobody;
      agrees = (λ i. cond (itself g.0 i) g.1 (home_in gs g.0), agree_more g gs gs apart.1 h.agrees);
    }
  where
    off : (a : ℕ) → 0 < a → (a == 0) ≡ false
    off a lt = grind (arith, lt)

    itself : (a : ℕ) → (a == a) ≡ true
    itself a = grind arith

-- ---- a binding has one server

-- ---- what servers reached, by what is seen

abbrev has_copy : Option Copy → ℕ → Bool
has_copy None n = false
has_copy (Some c) n = not (nat_lt (binding_number c.binding) n)

abbrev reached_up : Option Parts → ℕ → ℕ → Bool
reached_up None x n = true
reached_up (Some t) x n = has_copy (at_number x t.server.objects) n

abbrev reached_at : Option Node → ℕ → ℕ → ℕ → Bool
reached_at None x n i = true
reached_at (Some m) x n i = nat_lt i m.disk.inc || ((i == m.disk.inc) && reached_up m.live x n)

abbrev reach_of : Seen → Reach
reach_of M j x n i = reached_at (M.nodes j) x n i

passes_of : (given : Gifts) (M : Seen) → LivesWith given M → PassesAll (reach_of M) M
passes_of given M l = record {
  zero = λ j x n. zero j x n (M.nodes j) refl;
  nodes = λ j m is. record {
    past = λ x n h less. (λ i. reached_at (is i) x n h) ∙ first (nat_lt h m.disk.inc) _ (lower h m.disk.inc less);
    here = up j m is m.live refl;
  };
}
  where
    lower : (a b : ℕ) → a < b → nat_lt a b ≡ true
    lower a b less = grind (arith, less)

    first : (a b : Bool) → a ≡ true → (a || b) ≡ true
    first true b is = refl
    first false b is = absurd (cc is)

    second : (a b c : Bool) → b ≡ true → c ≡ true → (a || (b && c)) ≡ true
    second true b c x y = refl
    second false true true x y = refl
    second false true false x y = absurd (cc y)
    second false false c x y = absurd (cc x)

    zero : (j x n : ℕ) (o : Option Node) → M.nodes j ≡ o → reached_at o x n 0 ≡ true
    zero j x n None is = refl
    zero j x n (Some m) is = first (nat_lt 0 m.disk.inc) _ (lower 0 m.disk.inc (let p = l.places j m is in p.first))

    up : (j : ℕ) (m : Node) → M.nodes j ≡ Some m → (o : Option Parts) → m.live ≡ o → PassesIn (reach_of M) j m.disk.inc o
    up j m is None down = λ x n. (λ i. reached_at (is i) x n m.disk.inc) ∙ second (nat_lt m.disk.inc m.disk.inc) (m.disk.inc == m.disk.inc)
        (reached_up m.live x n) (same_number m.disk.inc) (ap (λ z. reached_up z x n) down)
    up j m is (Some t) live =
        λ x n c at low. (λ i. reached_at (is i) x n m.disk.inc) ∙ second (nat_lt m.disk.inc m.disk.inc) (m.disk.inc == m.disk.inc)
        (reached_up m.live x n) (same_number m.disk.inc) (ap (λ z. reached_up z x n) live ∙ ap (λ z. has_copy z n) at ∙ ap not low)

-- ---- calls name what their servers reached

reached_of : (M : Seen) → LivesRun M → CallsReach M
reached_of M (given, l) j m is from c asked = by (nat_lt c.inc m.disk.inc) refl ((λ i. reached_at (sym is i) c.x (binding_number c.binding)
    c.inc) ∙ named q.0 q.2 (subst (NamesAsked (home_in given) (reach_of M) j) q.1 its.asking))
  where
    its : NamesPost (home_in given) (reach_of M) M.sent (record { from = from; to = j; message = asked.message })
    its = let f = l.lived (home_in given) (reach_of M) (is_home given l.apart) (passes_of given M l) in
        f.sent (record { from = from; to = j; message = asked.message }) asked.posted

    q : (a : Ask) × (asks asked.message ≡ Some (c.head, a)) × (call_in c.head a ≡ Some c)
    q = asked_call asked.message c asked.call

    none_is : {P : Type 0} → ◌≡◌ {A = Option Call} None (Some c) → P
    none_is is = absurd (cc is)

    named : (a : Ask) → call_in c.head a ≡ Some c → NamesAsk (home_in given) (reach_of M) j a →
        reach_of M j c.x (binding_number c.binding) c.inc ≡ true
    named (ask.Invoke x b i ends op) same n =
        subst (λ (z : Call). reach_of M j z.x (binding_number z.binding) z.inc ≡ true) (some_is same) n.1
    named (ask.Bind x i avoid) same n = none_is same
    named (ask.Load x) same n = none_is same
    named (ask.Activate b st) same n = none_is same
    named (ask.Record x b i g) same n = none_is same
    named (ask.Vote i ties ends) same n = none_is same
    named (ask.Prepare states) same n = none_is same
    named (ask.Confirm grants ex inc) same n = none_is same

    lower : (a b : ℕ) → nat_lt a b ≡ true → a < b
    lower a b less = grind (arith, less)

    copy : (s : Server) (o : Option Copy) → at_number c.x s.objects ≡ o → has_copy o (binding_number c.binding) ≡ true →
        HasReached c.x c.binding s
    copy s None at has = absurd (cc has)
    copy s (Some e) at has = (e, at, low (nat_lt (binding_number e.binding) (binding_number c.binding)) has)
      where
        low : (b : Bool) → not b ≡ true → b ≡ false
        low true is = absurd (cc is)
        low false is = refl

    present : (o : Option Parts) → reached_up o c.x (binding_number c.binding) ≡ true → IsSoUp (HasReached c.x c.binding) o
    present None has = tt
    present (Some t) has = copy t.server (at_number c.x t.server.objects) refl has

    by : (b : Bool) → nat_lt c.inc m.disk.inc ≡ b →
        (b || ((c.inc == m.disk.inc) && reached_up m.live c.x (binding_number c.binding))) ≡ true → Since c.inc (HasReached c.x c.binding) m
    by true less has = inl (lower c.inc m.disk.inc less)
    by false less has = let p = and_parts (c.inc == m.disk.inc) (reached_up m.live c.x (binding_number c.binding)) has in
        inr (eqb-true c.inc m.disk.inc p.0, present m.live p.1)

-- ---- a binding has one server

module _ (home : Homes) (reach : Reach) where
  kept_so : (s : Steps) (c : Coord) → KnowsServers home reach c → IsKeptSo home reach s.x (kept_at s c)
  kept_so s c knows = keyed_at (λ y (z : Keeping). IsKeptSo home reach y z.kept) no_keeping s.x tt (let r = root_at_of in
      r.keeping) (all_at (IsRootSo home reach) no_root tt (let u = root_of s.path in u.num) c.roots knows.roots)
    where
      root_at_of : Root
      root_at_of = root_at (root_of s.path) c

  named_so : (x : ℕ) (r : Reply) (b : Binding) (n : ℕ) → NamesBind home reach x r → NamesIn r b n → n ≡ home (binding_number b)
  named_so x (Reply.Bound (bound.Live c server i g stores)) b n so names = sym names.1 ∙ so.0 ∙ ap (λ z. home (binding_number z)) names.0
  named_so x (Reply.Bound (bound.Make c server g stores)) b n so names = sym names.1 ∙ so ∙ ap (λ z. home (binding_number z)) names.0
  named_so x (Reply.Bound (bound.Write g stores)) b n so names = absurd names
  named_so x (Reply.Bound (bound.Conflict holder m)) b n so names = absurd names
  named_so x (Reply.Loaded r) b n so names = absurd names
  named_so x (Reply.Activated r) b n so names = absurd names
  named_so x (Reply.Noted r) b n so names = absurd names
  named_so x (Reply.Invoked r) b n so names = absurd names
  named_so x (Reply.Voted r) b n so names = absurd names
  named_so x (Reply.Prepared r) b n so names = absurd names
  named_so x (Reply.Confirmed r) b n so names = absurd names

  -- an answer that names a binding answers a Bind
  unbound_so : {P : Type 0} (r : Reply) (b : Binding) (n : ℕ) → IsUnbound r → NamesIn r b n → P
  unbound_so (Reply.Bound r) b n so names = absurd so
  unbound_so (Reply.Loaded r) b n so names = absurd names
  unbound_so (Reply.Activated r) b n so names = absurd names
  unbound_so (Reply.Noted r) b n so names = absurd names
  unbound_so (Reply.Invoked r) b n so names = absurd names
  unbound_so (Reply.Voted r) b n so names = absurd names
  unbound_so (Reply.Prepared r) b n so names = absurd names
  unbound_so (Reply.Confirmed r) b n so names = absurd names

  reply_so : (from : ℕ) (a : Ask) (r : Reply) (b : Binding) (n : ℕ) → NamesReply home reach from a r → NamesIn r b n →
      n ≡ home (binding_number b)
  reply_so from (ask.Bind x include avoid) r b n so names = named_so x r b n so names
  reply_so from (ask.Load x) r b n so names = unbound_so r b n so names
  reply_so from (ask.Activate c st) r b n so names = unbound_so r b n so.1 names
  reply_so from (ask.Record x c i g) r b n so names = unbound_so r b n so names
  reply_so from (ask.Invoke x c i ends op) r b n so names = unbound_so r b n so names
  reply_so from (ask.Vote i ties ends) r b n so names = unbound_so r b n so names
  reply_so from (ask.Prepare states) r b n so names = unbound_so r b n so names
  reply_so from (ask.Confirm grants ex inc) r b n so names = unbound_so r b n so names

homes_of : (k : ℕ) (d : Disk) (t : Parts) (M : Seen) → LivesRun (up k d t M) → HasHomes k t (up k d t M)
homes_of k d t M (gs, l) from m a r there is q s found now waits old b n keeps names same =
    let home = home_in gs in
    let reach = reach_of (up k d t M) in
    let f = l.lived home reach (is_home gs l.apart) (passes_of gs (up k d t M) l) in
    let mine = (f.nodes k (record { number = k; disk = d; live = Some t })
    (λ i. cond (same_number k i) (Some (record { number = k; disk = d; live = Some t })) (M.nodes k)) t refl).0 in
    let its = (f.sent (record { from = from; to = k; message = m }) there).answering a r is in
    let known = subst (IsKeptSo home reach s.x) keeps (kept_so home reach s t.coord mine) in
    known.0 ∙ ap home same ∙ sym (reply_so home reach from its.ask r b n its.so names)

-- ---- all runs

-- where nodes are good and naming's count fits
pub calls_go : (hd : Header) (G : Seen → Type 0) → ((M : Seen) → G M → IsGood M) →
    ((k : ℕ) (d : Disk) (t : Parts) (M : Seen) → G (up k d t M) → CountFits t) → KeepsGiven hd G (λ M. LivesRun M × KnowsRun M)
calls_go hd G good fits = both_given hd G LivesRun KnowsRun
    (lives_given hd (λ M. G M × KnowsRun M) (λ M g. good M g.0) (λ M g. g.1) (λ k d t M g. fits k d t M g.0))
    (calls_given hd (λ M. G M × LivesRun M) (record { reached = λ M g. reached_of M g.1; homes = λ k d t M g. homes_of k d t M g.1 }))

-- a journal with few bindings had few before
pub few_before : (lines more : List Line) → HasFewBindings (lines ++ more) → HasFewBindings lines
few_before lines more less = below (bindings_made lines) (bindings_made (lines ++ more)) (fewer lines more) less
  where
    below : (a b : ℕ) → a ≤ b → b < 4294967295 → a < 4294967295
    below a b le less = omega (arith, le, less)

-- as long as few bindings were made, with what is kept beside it
abbrev pub WhileFew : (Seen → Type 0) → Seen → Type 0
WhileFew P M = (IsGood M × AreSaid M) × (HasFewBindings M.lines → (LivesRun M × KnowsRun M) × P M)

pub few_go : (hd : Header) (P : Seen → Type 0) → KeepsGiven hd KnowsFew P → Keeps hd (WhileFew P)
few_go hd P kept = kept_both hd Counted (λ M. HasFewBindings M.lines → Known M × P M)
    (kept_both hd IsGood AreSaid (all_keep hd) (keeps_given hd IsGood AreSaid (counts_are_said hd)))
    (while_given HasFewBindings few_before (λ M. Known M × P M) hd Counted
    (both_given hd Few Known P
    (given_more hd Few (λ M. Few M × P M) Known (λ M g. g.0) (calls_go hd Few (λ M g. g.0.0)
    (λ k d t M g o its. few (bindings_made M.lines) o.count (g.0.1 k (record { number = k; disk = d; live = Some t })
    (λ i. cond (same_number k i) (Some (record { number = k; disk = d; live = Some t })) (M.nodes k)) t o refl its) g.1)))
    (given_more hd KnowsFew (λ M. Few M × Known M) P (λ M g. (g.0.1, g.1)) kept)))
  where
    Counted : Seen → Type 0
    Counted M = IsGood M × AreSaid M

    Few : Seen → Type 0
    Few M = Counted M × HasFewBindings M.lines

    Known : Seen → Type 0
    Known M = LivesRun M × KnowsRun M

    few : (n c : ℕ) → c ≤ n → n < 4294967295 → c + 1 < 4294967296
    few n c le less = omega (arith, le, less)

-- what is known of servers and of calls where few bindings were made
known_in : (hd : Header) (w : World) → KeepingIn hd w → HasFewBindings w.lines → (P : Seen → Type 0) →
    ((M : Seen) → LivesRun M × KnowsRun M → P M) → Holds hd P w
known_in hd w keeping few P so =
    let h = kept_holds hd w keeping (WhileFew IsGood) (few_go hd IsGood (keeps_given hd KnowsFew IsGood (all_keep hd))) in
    record { sent = h.sent; stands = h.stands; holds = so (see h.sent w) (h.holds.1 few).0 }

pub runs_vote : RunsVote
runs_vote hd r few = known_in hd (world_by hd r) (moves_keep hd r) few AllVotesAreUsed (λ M k. votes_in M k.1)

pub runs_call : RunsCall
runs_call hd r few = known_in hd (world_by hd r) (moves_keep hd r) few AllChangesAreCalled (λ M k. changes_in M k.1)
