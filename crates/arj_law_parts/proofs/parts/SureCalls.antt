-- What a coordinator says of ends, by effects and by calls.
use Rattle.arj_law_parts.proofs.Words
use Words.{ℕ, ◌≡◌, ◌+◌, List, [], ◌∷◌, ◌++◌, Bool, true, false, cond, map, Option, Some, None}
use Words.{Contains, refl, sym, ◌∙◌, ap, subst, inl, inr, ⊎_elim, is_some, flat_map, uid_cases, In, in_from}
use Words.{in_to, Uid, End, Path, Op, Body, Label, Ask, Head, request, uid_eq, actor}
use Words.{asks_step, goes_on, call, call_steps, renewed, include, next_req, doomed_by, root_heard}
use Words.{step_call}
use Words.{Steps, At, AtBind, AtLoad, AtActivate, AtNote, AtInvoke}
use Words.{CallStep, On, Ended, CallEnd, Answered, Included, Conflict, Changed, Lost, ask_at, start}
use Words.{Machine, plan_of}
use Words.{Coord, Doing, Now, Idle, Calling, Committing, doing_of, set_doing, change_doing}
use Words.{on_doing, on_root, root_at, keeping_of, is_free, with_keeping, Effect}
use Words.{Did, says, say_for, tell, tell_all, up_to, ended}
use Words.{unbound}
use Words.{Tree, Branch, ends_of, is_own, at_place, root_of}
use Words.{uses_object, doomed_at}
use Words.ask
use Words.ending
use Words.calls
use Rattle.arj_law_parts.proofs.Terms
use Terms.{IsOver, AllSayEnds, IsSure, SaysEndsIn}
use Terms.{IsDecided}
use Rattle.arj_law_parts.proofs.parts
use parts.Decided.{Stand, stand_by, stand_same}
use parts.GoodCoords.{doomed_same, uses_same}
use parts.Settled.{doing_other, doing_put}
use Rattle.arj_law_parts.specs.parts.Ends.{AreDecided, IsToldSo, SaysEnds}
use Rattle.arj_protocol.specs.Follow.{ends_in}

-- ---- from one coordinator to the next

pub lists_on : (t v : Tree) → Stand t v → ((r : Uid) → AreDecided (ends_of r t) t) → (r : Uid) → AreDecided (ends_of r v) v
lists_on t v s lists r u e i =
    ⊎_elim (λ old. s.ends u e (lists r u e (in_to (u, e) (ends_of r t) old))) (λ new. new) (s.listed r u e (in_from (u, e) (ends_of r v) i))

pub sure_on : (c e : Coord) → Stand c.tree e.tree → ((u : Uid) → is_own u e.tree ≡ is_own u c.tree) → e.doings ≡ c.doings →
    e.telling ≡ c.telling → IsSure c → IsSure e
sure_on c e s own doings telling sure = record {
  lists = lists_on c.tree e.tree s sure.lists;
  plans = λ u d m found is w x i. s.ends w x (sure.plans u d m (sym (same_doing u) ∙ found) is w x i);
  records = λ u i k its. s.ends u ending.Commit (sure.records u i (subst (λ m. Contains m (u, i)) telling k) (sym (own u) ∙ its));
}
  where
    same_doing : (u : Uid) → doing_of u e ≡ doing_of u c
    same_doing u = λ i. cond (own u i) (at_place u.num (doings i)) None

-- of the same tree
pub sure_same : (c e : Coord) → e.tree ≡ c.tree → e.doings ≡ c.doings → e.telling ≡ c.telling → IsSure c → IsSure e
sure_same c e tree doings telling sure = sure_on c e (stand_by c.tree e.tree (sym tree)) (λ u. ap (is_own u) tree) doings telling sure

pub some_is : {A : Type 0} (a b : A) → Some a ≡ Some b → a ≡ b
some_is {A} a b is = let k : ◌≡◌ {A = Option A} (Some a) (Some b) = is in cc

pub idle_not : {P : Type 0} (m : Machine) → Idle ≡ Committing m → P
idle_not m is = let no_way : ◌≡◌ {A = Now} Idle (Committing m) = is in cc

-- an action at work changes
pub sure_do : (u : Uid) (f : Doing → Doing) (c : Coord) → ((d : Doing) (m : Machine) → doing_of u c ≡ Some d → (f d).now ≡ Committing m →
    AreDecided (let p = plan_of m in p.ends) c.tree) → IsSure c → IsSure (on_doing u f c)
sure_do u f c so sure = by (doing_of u c) refl
  where
    by : (o : Option Doing) → doing_of u c ≡ o → IsSure (change_doing f u c o)
    by None none = sure
    by (Some old) found = record {
      lists = sure.lists;
      plans = λ w d m at is. ⊎_elim (λ same. its d m (sym (doing_put u (f old) old c found) ∙ ap (λ v. doing_of v (set_doing u (f old) c))
          (sym same) ∙ at) is) (λ other. sure.plans w d m (sym (doing_other u w (f old) old c found other) ∙ at) is) (uid_cases w u);
      records = sure.records;
    }
      where
        its : (d : Doing) (m : Machine) → Some (f old) ≡ Some d → d.now ≡ Committing m → AreDecided (let p = plan_of m in p.ends) c.tree
        its d m same is = so old m found (ap (λ (x : Doing). x.now) (some_is (f old) d same) ∙ is)

-- ---- effects

pub decided_so : (u : Uid) (e : End) (t : Tree) → IsDecided u e t → IsToldSo u e t
decided_so u ending.Commit t d = λ own. d
decided_so u ending.Abort t d = λ b found. ap (λ (x : Branch). is_some x.ended) (some_is b d.0 (sym found ∙ d.1)) ∙ ap is_some d.2

pub over_so : (u : Uid) (t : Tree) → IsOver u t → IsToldSo u ending.Abort t
over_so u t o = λ b found. ap (λ (x : Branch). is_some x.ended) (some_is b o.0 (sym found ∙ o.1)) ∙ o.2

pub one_so : (u : Uid) (e : End) (t : Tree) → IsToldSo u e t → (w : Uid) (f : End) → Contains {X = Uid × End} ((u, e) ∷ []) (w, f) →
    IsToldSo w f t
one_so u e t so w f i = by (in_from (w, f) ((u, e) ∷ []) i)
  where
    by : In {X = Uid × End} (w, f) ((u, e) ∷ []) → IsToldSo w f t
    by (inl same) = subst (λ (x : Uid × End). IsToldSo x.0 x.1 t) same so
    by (inr none) = absurd none

pub up_to_in : (u : Uid) (x : Uid × End) (es : List (Uid × End)) → In x (up_to u es) → In x es
up_to_in u x [] i = i
up_to_in u x (e ∷ es) i = by (uid_eq e.0 u) (up_to_in u x es) i
  where
    by : (b : Bool) → (In x (up_to u es) → In x es) → In x (cond b (e ∷ []) (e ∷ up_to u es)) → In x (e ∷ es)
    by true ih (inl same) = inl same
    by true ih (inr none) = absurd none
    by false ih (inl same) = inl same
    by false ih (inr j) = inr (ih j)

pub none_in : {P : Type 0} (u : Uid) (e : End) → Contains {X = Uid × End} [] (u, e) → P
none_in u e i = absurd (in_from (u, e) [] i)

module _ (t : Tree) where
  pub says_both : (es fs : List Effect) → AllSayEnds t es → AllSayEnds t fs → AllSayEnds t (es ++ fs)
  says_both [] fs a b = b
  says_both (e ∷ es) fs a b = (a.0, says_both es fs a.1 b)

  pub says_map : {A : Type 0} (f : A → Effect) (items : List A) → ((x : A) → In x items → SaysEndsIn t (f x)) → AllSayEnds t (map f items)
  says_map f [] each = tt
  says_map f (x ∷ xs) each = (each x (inl refl), says_map f xs (λ y i. each y (inr i)))

  pub says_flat : {A : Type 0} (f : A → List Effect) (items : List A) → ((x : A) → In x items → AllSayEnds t (f x)) →
      AllSayEnds t (flat_map f items)
  says_flat f [] each = tt
  says_flat f (x ∷ xs) each = says_both (f x) (flat_map f xs) (each x (inl refl)) (says_flat f xs (λ y i. each y (inr i)))

  pub says_lines : (u : Uid) (f : Label → Body) (d : Coord) → AllSayEnds t (says u f d)
  says_lines u f d = by (doing_of u d)
    where
      by : (o : Option Doing) → AllSayEnds t (say_for f o)
      by None = tt
      by (Some x) = (tt, tt)

  pub says_tells : (root : Uid) (ack : Bool) (ends : List (Uid × End)) (nodes : List ℕ) →
      ((u : Uid) (e : End) → Contains ends (u, e) → IsToldSo u e t) → AllSayEnds t (tell_all root ack ends nodes)
  says_tells root ack ends nodes each =
      says_map (tell root ack ends) nodes (λ n i. record { brings = λ u e k. none_in u e k; tells = each })

  pub says_request : (h : Head) (a : Ask) → AreDecided (ends_in a) t → SaysEnds t (request h a)
  says_request h (ask.Bind x i avoid) so = record { brings = λ u e k. so u e k; tells = λ u e k. none_in u e k }
  says_request h (ask.Load x) so = record { brings = λ u e k. so u e k; tells = λ u e k. none_in u e k }
  says_request h (ask.Activate b st) so = record { brings = λ u e k. so u e k; tells = λ u e k. none_in u e k }
  says_request h (ask.Record x b i g) so = record { brings = λ u e k. so u e k; tells = λ u e k. none_in u e k }
  says_request h (ask.Invoke x b i ends o) so = record { brings = λ u e k. so u e k; tells = λ u e k. none_in u e k }
  says_request h (ask.Vote i ties ends) so = record { brings = λ u e k. so u e k; tells = λ u e k. none_in u e k }
  says_request h (ask.Prepare states) so = record { brings = λ u e k. so u e k; tells = λ u e k. none_in u e k }
  says_request h (ask.Confirm g e i) so = record { brings = λ u e k. so u e k; tells = λ u e k. none_in u e k }

-- the coordinator stays sure, and what it says of ends is so
abbrev pub IsSureDid : Did Coord → Type 0
IsSureDid d = IsSure d.part × AllSayEnds (let c = d.part in c.tree) d.outs

-- ---- calls

says_step : (s : Steps) (c : Coord) → ((r : Uid) → AreDecided (ends_of r c.tree) c.tree) → AllSayEnds c.tree (asks_step s c).outs
says_step s c lists =
    (says_request c.tree (record { path = s.path; req = s.req }) (ask_at s.x s.goal (ends_of (root_of s.path) c.tree) s.at) (by s.at), tt)
  where
    by : (a : At) → AreDecided (ends_in (ask_at s.x s.goal (ends_of (root_of s.path) c.tree) a)) c.tree
    by (AtBind avoid) u e i = none_in u e i
    by (AtLoad k n rest) u e i = none_in u e i
    by (AtActivate k st) u e i = none_in u e i
    by (AtNote k j) u e i = none_in u e i
    by (AtInvoke k j) u e i = lists (root_of s.path) u e i

pub sure_step : (s : Steps) (c : Coord) → IsSure c → IsSureDid (asks_step s c)
sure_step s c sure = (sure_same c (asks_step s c).part refl refl refl sure, says_step s c sure.lists)

sure_goes : (s : Steps) (c : Coord) → IsSure c → IsSureDid (goes_on s c)
sure_goes s c sure = sure_step s (on_doing (actor s.path) (λ (d : Doing). record d { req = s.req; now = Calling s }) c)
    (sure_do (actor s.path) (λ (d : Doing). record d { req = s.req; now = Calling s }) c
    (λ d m f is. let no_way : ◌≡◌ {A = Now} (Calling s) (Committing m) = is in cc) sure)

sure_uses : (p : Path) (x : ℕ) (c : Coord) → IsSure c → IsSure (record c { tree = uses_object p x c.tree })
sure_uses p x c sure = let q = uses_same p x c.tree in
    sure_on c (record c { tree = uses_object p x c.tree }) (stand_same c.tree (uses_object p x c.tree) q) q.own refl refl sure

pub sure_call : (p : Path) (x : ℕ) (o : Op) (c : Coord) → IsSure c → IsSureDid (call p x o c)
sure_call p x o c sure =
    let r = root_at (root_of p) c in
    let old = keeping_of x r in
    let k = renewed (is_free (root_of p) (actor p) x c) old old.kept in
    let u : Coord = record c { tree = uses_object p x c.tree } in
    let t : Coord = on_root (root_of p) (with_keeping x k) u in
    sure_goes (call_steps p x o (next_req (actor p) c) r c k) t (sure_same u t refl refl refl (sure_uses p x c sure))

pub sure_include : (p : Path) (x s : ℕ) (c : Coord) → IsSure c → IsSureDid (include p x s c)
sure_include p x s c sure = sure_goes (start p x (calls.Include s) None unbound (next_req (actor p) c))
    (record c { tree = uses_object p x c.tree }) (sure_uses p x c sure)

pub sure_idle : (u : Uid) (c : Coord) → IsSure c → IsSure (on_doing u (λ (d : Doing). record d { now = Idle }) c)
sure_idle u c sure = sure_do u (λ (d : Doing). record d { now = Idle }) c (λ d m f is. idle_not m is) sure

pub sure_step_call : (s : Steps) (t : CallStep) (c : Coord) → IsSure c → IsSureDid (step_call s t c)
sure_step_call s (On at) c sure = sure_goes (record s { req = s.req + 1; at = at }) c sure
sure_step_call s (Ended e) c sure = (by e, says_lines (let d = step_call s (Ended e) c in let q = d.part in q.tree) (actor s.path) _ c)
  where
    idle : Coord
    idle = on_root (root_of s.path) (root_heard s e) (on_doing (actor s.path) (λ (d : Doing). record d { now = Idle }) c)

    its : IsSure idle
    its = let m : Coord = on_doing (actor s.path) (λ (d : Doing). record d { now = Idle }) c in
        sure_same m idle refl refl refl (sure_idle (actor s.path) c sure)

    by : (g : CallEnd) → IsSure (doomed_by (actor s.path) g idle)
    by (Answered a) = its
    by (Included st) = its
    by (Conflict h m n) = its
    by (Changed n w) = its
    by (Lost n false) = its
    by (Lost n true) = let q = doomed_same (actor s.path) idle.tree in sure_on idle (record idle
        { tree = doomed_at (actor s.path) idle.tree }) (stand_same idle.tree (doomed_at (actor s.path) idle.tree) q) q.own refl refl its
