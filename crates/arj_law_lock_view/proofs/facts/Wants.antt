-- What each request that was sent wants of an object.
use Rattle.arj_law_parts.proofs.Words
use Words.{◌≡◌, ◌≢◌, ◌⊎◌, ◌∙◌, ◌==◌, ◌&&◌, ℕ, Bool, true, false, cond, List, [], ◌∷◌, Option, Some, None, refl, sym, ap, inl, inr, arith}
use Words.{eqb-true, and_parts, uid_is, uid_same, Ask, Uid, asks, uid_eq, actor, asked_by, Post}
use Words.ask
use Rattle.arj_law_lock_view.proofs.Terms.{Wanted, Wants, IsFromOne}
use Rattle.arj_law_lock_view.specs.{facts.Given.RequestsWant, facts.Given.SentWants, view.Serving.IsWanted}
use Rattle.arj_law_parts.specs.moves.Seen.{In}
use Rattle.arj_law_runs.specs.calls.{Calls.Call, Calls.call_by, Calls.call_of, Servers.AreOneCall}

some_is : {A : Type 0} {a b : A} → Some a ≡ Some b → a ≡ b
some_is {A} {a} {b} is = let k : ◌≡◌ {A = Option A} (Some a) (Some b) = is in cc

-- what a call wants of the object
abbrev wanted_of : ℕ → Call → Option Wanted
wanted_of x c = cond (c.x == x) (Some (record { binding = c.binding; op = c.op })) None

-- the call is this request
abbrev is_it : Uid → ℕ → Call → Bool
is_it u req c = uid_eq (actor c.head.path) u && (c.head.req == req)

abbrev wanted_by : ℕ → Uid → ℕ → Option Call → Option Wanted → Option Wanted
wanted_by x u req None rest = rest
wanted_by x u req (Some c) rest = cond (is_it u req c) (wanted_of x c) rest

-- by the first call of this request among the posts
wants_in : ℕ → List Post → Wants
wants_in x [] u req = None
wants_in x (p ∷ ps) u req = wanted_by x u req (call_of p.message) (wants_in x ps u req)

asked_is : (a b : Call) → is_it (actor b.head.path) b.head.req a ≡ true → asked_by a.head ≡ asked_by b.head
asked_is a b is = let p = and_parts (uid_eq (actor a.head.path) (actor b.head.path)) (a.head.req == b.head.req) is in
    λ i. record { act = uid_is (actor a.head.path) (actor b.head.path) p.0 i; req = eqb-true a.head.req b.head.req p.1 i }

itself : (c : Call) → is_it (actor c.head.path) c.head.req c ≡ true
itself c = λ i. uid_same (actor c.head.path) i && number c.head.req i
  where
    number : (n : ℕ) → (n == n) ≡ true
    number n = grind arith

-- another call by the same request wants the same
same_wanted : (x : ℕ) (sent : List Post) → AreOneCall sent → (p q : Post) (a c : Call) → In p sent → In q sent →
    call_of p.message ≡ Some a → call_of q.message ≡ Some c → is_it (actor c.head.path) c.head.req a ≡ true → wanted_of x a ≡ wanted_of x c
same_wanted x sent one p q a c i j is_a is_c same =
    let f = one p.from q.from p.to q.to a c (record { message = p.message; posted = i; call = is_a })
    (record { message = q.message; posted = j; call = is_c }) (asked_is a c same) in
    λ k. cond (f.0 k == x) (Some (record { binding = f.1 k; op = f.3 k })) None

found_in : (x : ℕ) (sent : List Post) → AreOneCall sent → (p : Post) (c : Call) → In p sent → call_of p.message ≡ Some c →
    (ps : List Post) → ((q : Post) → In q ps → In q sent) → In p ps → wants_in x ps (actor c.head.path) c.head.req ≡ wanted_of x c
unfolding wants_in
found_in x sent one p c there is [] within i = absurd i
found_in x sent one p c there is (q ∷ qs) within i =
    by (call_of q.message) refl i (λ j. found_in x sent one p c there is qs (λ z k. within z (inr k)) j)
  where
    u : Uid
    u = actor c.head.path

    by : (o : Option Call) → call_of q.message ≡ o → (q ≡ p) ⊎ In p qs → (In p qs → wants_in x qs (actor c.head.path) c.head.req
        ≡ wanted_of x c) → wanted_by x (actor c.head.path) c.head.req o (wants_in x qs (actor c.head.path) c.head.req) ≡ wanted_of x c
    by None none (inl same) ih =
        let no_way : ◌≡◌ {A = Option Call} None (Some c) = sym none ∙ ap (λ (z : Post). call_of z.message) same ∙ is in absurd (cc no_way)
    by None none (inr j) ih = ih j
    by (Some a) at j ih = one_of (is_it u c.head.req a) refl j
      where
        one_of : (b : Bool) → is_it u c.head.req a ≡ b → (q ≡ p) ⊎ In p qs →
            cond b (wanted_of x a) (wants_in x qs (actor c.head.path) c.head.req) ≡ wanted_of x c
        one_of true e k = same_wanted x sent one q p a c (within q (inl refl)) there at is e
        one_of false e (inr k) = ih k
        one_of false e (inl same) = let its : a ≡ c = some_is (sym at ∙ ap (λ (z : Post). call_of z.message) same ∙ is) in
            let no_way : true ≡ false = sym (itself c) ∙ ap (is_it u c.head.req) (sym its) ∙ e in absurd (cc no_way)

pub requests_want : RequestsWant
requests_want x sent one numbered = (wants_in x sent, wanted)
  where
    wanted : SentWants x sent (wants_in x sent)
    wanted v p h a of_x its there is = by a is (numbered p there h a is)
      where
        by : (b : Ask) → asks p.message ≡ Some (h, b) → IsFromOne h b → IsWanted v h b
        by (ask.Invoke y b i ends op) at low =
            (low, (λ same. here ∙ on (y == x) refl (same ∙ of_x)), λ other. here ∙ off (y == x) refl (λ e. other (e ∙ sym of_x)))
          where
            c : Call
            c = record { head = h; x = y; binding = b; inc = i; op = op }

            here : v.wants (actor h.path) h.req ≡ wanted_of x c
            here = ap (λ (w : Wants). w (actor h.path) h.req) its ∙ found_in x sent one p c there (ap call_by at) sent (λ q j. j) there

            on : (t : Bool) → (y == x) ≡ t → y ≡ x →
                cond {A = Option Wanted} t (Some (record { binding = b; op = op })) None ≡ Some (record { binding = b; op = op })
            on true e same = refl
            on false e same = let no_way : true ≡ false = sym (ap (λ n. n == x) same ∙ number x) ∙ e in absurd (cc no_way)
              where
                number : (n : ℕ) → (n == n) ≡ true
                number n = grind arith

            off : (t : Bool) → (y == x) ≡ t → y ≢ x → cond {A = Option Wanted} t (Some (record { binding = b; op = op })) None ≡ None
            off true e apart = absurd (apart (eqb-true y x e))
            off false e apart = refl
        by (ask.Bind y include avoid) at low = tt
        by (ask.Load y) at low = tt
        by (ask.Activate b st) at low = tt
        by (ask.Record y b i g) at low = tt
        by (ask.Vote i ties ends) at low = tt
        by (ask.Prepare states) at low = tt
        by (ask.Confirm grants excluded included) at low = tt
