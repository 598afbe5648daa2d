-- The lines of events.
use Rattle.arj_law_parts.proofs.Words
use Words.{◌≡◌, ◌∙◌, ◌+◌, ◌-◌, ℕ, zero, suc, Bool, true, false, cond, List, [], ◌∷◌, ◌++◌, length, refl, sym, ap, subst, Option, Some, None}
use Words.{is_some, nat_lt, append-nil, append_assoc, steps_lines, Disk, Effect, Say, Send, Do, Stop, effects_of, effects_of_node}
use Words.{effects_until, Parts, Ran, handle_all, most_rounds, next_round, ran, rounds, whole, at_number, Node, Step, Input, refusal, step}
use Words.{step_unless, at_place, Body, Event, Header, Message, World, Arm, bodies, count_works, cut, halted_outs, numbered, refused_at}
use Words.{sent_line, steps}
use Words.body
use Rattle.arj_law_parts.proofs.Terms.{Answers, IsAnswered, IsDone, IsOwn, IsRefused, Own, halts_for}
use Rattle.arj_law_parts.specs.steps.Writes.{HasHalted, IsRefusedWith}

-- ---- a line among others

-- the item stands in the list
pub record Stands {A : Type 0} (x : A) (xs : List A) : Type 0 where
  pub before : List A
  pub after : List A
  pub are : xs ≡ before ++ x ∷ after

pub first_stands : {A : Type 0} (x : A) (xs : List A) → Stands x (x ∷ xs)
first_stands x xs = record { before = []; after = xs; are = refl }

pub stands_behind : {A : Type 0} (x : A) (ys xs : List A) → Stands x xs → Stands x (ys ++ xs)
stands_behind x ys xs s =
    record { before = ys ++ s.before; after = s.after; are = ap (λ zs. ys ++ zs) s.are ∙ sym (append_assoc ys s.before (x ∷ s.after)) }

pub stands_before : {A : Type 0} (x : A) (xs ys : List A) → Stands x xs → Stands x (xs ++ ys)
stands_before x xs ys s =
    record { before = s.before; after = s.after ++ ys; are = ap (λ zs. zs ++ ys) s.are ∙ append_assoc s.before (x ∷ s.after) ys }

last_stands : {A : Type 0} (x : A) (xs : List A) → Stands x (xs ++ x ∷ [])
last_stands x xs = stands_behind x xs (x ∷ []) (first_stands x [])

-- what an effect says is among the lines
said_in : (n k : ℕ) (b : Body) (front back : List Effect) → Stands b (bodies n k (front ++ Say b ∷ back))
said_in n k b [] back = first_stands b (bodies n k back)
said_in n k b (Say c ∷ es) back = stands_behind b (c ∷ []) (bodies n k (es ++ Say b ∷ back)) (said_in n k b es back)
said_in n k b (Send to m ∷ es) back =
    stands_behind b (sent_line (k + 1) n to _) (bodies n (k + 1) (es ++ Say b ∷ back)) (said_in n (k + 1) b es back)
said_in n k b (Do w ∷ es) back = said_in n k b es back

pub said_of : (n k : ℕ) (b : Body) (es : List Effect) → Stands (Say b) es → Stands b (bodies n k es)
said_of n k b es s = subst (λ xs. Stands b (bodies n k xs)) (sym s.are) (said_in n k b s.before s.after)

pub numbered_in : (ev : ℕ) (b : Body) (bs : List Body) → Stands b bs → Stands (record { event = ev; body = b }) (numbered ev bs)
numbered_in ev b bs s = subst (λ xs. Stands (record { event = ev; body = b }) (numbered ev xs)) (sym s.are) (go s.before)
  where
    go : (front : List Body) → Stands (record { event = ev; body = b }) (numbered ev (front ++ b ∷ s.after))
    go [] = first_stands (record { event = ev; body = b }) (numbered ev s.after)
    go (c ∷ cs) =
        stands_behind (record { event = ev; body = b }) (record { event = ev; body = c } ∷ []) (numbered ev (cs ++ b ∷ s.after)) (go cs)

-- ---- a whole step goes on with what it begins with

rounds_add : (n k : ℕ) (r : Ran) → (more : List Effect) × ((rounds n k r).outs ≡ r.outs ++ more)
rounds_add n zero r = ([], sym (append-nil r.outs))
rounds_add n (suc k) r = by r.queue (rounds_add n k (next_round n r))
  where
    turn : List Effect
    turn = (handle_all n r.queue r.here).outs

    after : List Message → Ran
    after q = elim q [ [] ↦ r | m ∷ ms ↦ rounds n k (next_round n r) ]

    by : (q : List Message) → (more : List Effect) × ((rounds n k (next_round n r)).outs ≡ (r.outs ++ turn) ++ more) →
        (more : List Effect) × ((after q).outs ≡ r.outs ++ more)
    by [] rest = ([], sym (append-nil r.outs))
    by (m ∷ ms) rest = (turn ++ rest.0, rest.1 ∙ append_assoc r.outs turn rest.0)

pub whole_says : (n : ℕ) (t : Parts) (es : List Effect) (d : Disk) (e : Effect) → Stands e (ran n t es d).outs →
    Stands e (whole n t es d).outs
whole_says n t es d e s =
    let more = rounds_add n most_rounds (ran n t es d) in
    subst (Stands e) (sym more.1) (stands_before e (ran n t es d).outs more.0 s)

pub third_stands : {A : Type 0} (a c x : A) (xs : List A) → Stands x (a ∷ c ∷ x ∷ xs)
third_stands a c x xs = record { before = a ∷ c ∷ []; after = xs; are = refl }

-- a line for which a test holds is among the effects
pub record Says (P : Body → Type 0) (es : List Effect) : Type 0 where
  pub line : Body
  pub stands : Stands (Say line) es
  pub holds : P line

-- ---- where a stop cuts the step, its halt is said

pub data Or (P : Body → Type 0) (k : ℕ) (b : Body) : Type 0 where
  Its : P b → Or P k b
  Halt : b ≡ body.Halted k → Or P k b

until_says : (P : Body → Type 0) (k : ℕ) (n : Node) (s : Step) (a : Option Arm) → Says P s.outs → Says (Or P k) (effects_until k n s a)
until_says P k n s None says = record { line = says.line; stands = says.stands; holds = Its says.holds }
until_says P k n s (Some a) says = by (nat_lt (count_works s.halting) a.works)
  where
    by : (b : Bool) → Says (Or P k) (cond b s.outs (halted_outs k (cut (a.works - 1) a.how s.halting n.disk)))
    by true = record { line = says.line; stands = says.stands; holds = Its says.holds }
    by false = record {
      line = body.Halted k;
      stands = last_stands (Say (body.Halted k)) (cut (a.works - 1) a.how s.halting n.disk).outs;
      holds = Halt refl;
    }

-- what is said first stands before any stop
pub record SaysFirst (P : Body → Type 0) (es : List Effect) : Type 0 where
  pub line : Body
  pub rest : List Effect
  pub are : es ≡ Say line ∷ rest
  pub holds : P line

until_first : (P : Body → Type 0) (k : ℕ) (n : Node) (s : Step) (a : Option Arm) → Says P s.outs → SaysFirst P s.halting →
    Says P (effects_until k n s a)
until_first P k n s None says first = says
until_first P k n s (Some a) says first = by (nat_lt (count_works s.halting) a.works)
  where
    stays : (c : ℕ) (how : Stop) (es : List Effect) →
        (more : List Effect) × ((cut c how (Say first.line ∷ es) n.disk).outs ≡ Say first.line ∷ more)
    stays zero how es = ((cut zero how es n.disk).outs, refl)
    stays (suc c) how es = ((cut (suc c) how es n.disk).outs, refl)

    left : Stands (Say first.line) (cut (a.works - 1) a.how s.halting n.disk).outs
    left = let m = stays (a.works - 1) a.how first.rest in subst (λ es. Stands (Say first.line) (cut (a.works - 1) a.how es n.disk).outs)
        (sym first.are) (subst (Stands (Say first.line)) (sym m.1) (first_stands (Say first.line) m.0))

    by : (b : Bool) → Says P (cond b s.outs (halted_outs k (cut (a.works - 1) a.how s.halting n.disk)))
    by true = says
    by false = record {
      line = first.line;
      stands = stands_before (Say first.line) (cut (a.works - 1) a.how s.halting n.disk).outs (Say (body.Halted k) ∷ []) left;
      holds = first.holds;
    }

pub node_says_first : (P : Body → Type 0) (k : ℕ) (i : Input) (v : World) → is_some (at_place k v.nodes) ≡ true → ((n : Node) →
    at_place k v.nodes ≡ Some n → Says P (step v.header n i).outs × SaysFirst P (step v.header n i).halting) → Says P (effects_of k i v)
node_says_first P k i v there says = by (at_place k v.nodes) refl there
  where
    by : (o : Option Node) → at_place k v.nodes ≡ o → is_some o ≡ true → Says P (effects_of_node k i v o)
    by None is none = absurd (cc none)
    by (Some n) is some = let s = says n is in until_first P k n (step v.header n i) (at_number k v.arms) s.0 s.1

-- a node that is there says it
pub node_says : (P : Body → Type 0) (k : ℕ) (i : Input) (v : World) → is_some (at_place k v.nodes) ≡ true →
    ((n : Node) → at_place k v.nodes ≡ Some n → Says P (step v.header n i).outs) → Says (Or P k) (effects_of k i v)
node_says P k i v there says = by (at_place k v.nodes) refl there
  where
    by : (o : Option Node) → at_place k v.nodes ≡ o → is_some o ≡ true → Says (Or P k) (effects_of_node k i v o)
    by None is none = absurd (cc none)
    by (Some n) is some = until_says P k n (step v.header n i) (at_number k v.arms) (says n is)

-- ---- a node that refuses

refusal_says : (hd : Header) (n : Node) (i : Input) (c : ℕ) → refusal hd i n ≡ Some c →
    Says (λ b. b ≡ body.Refused c) (step hd n i).outs × SaysFirst (λ b. b ≡ body.Refused c) (step hd n i).halting
refusal_says hd n i c is =
    subst (λ r. Says (λ b. b ≡ body.Refused c) (step_unless hd i n r).outs
    × SaysFirst (λ b. b ≡ body.Refused c) (step_unless hd i n r).halting) (sym is) (
      record { line = body.Refused c; stands = first_stands (Say (body.Refused c)) []; holds = refl },
      record { line = body.Refused c; rest = []; are = refl; holds = refl },
    )

-- no stop falls before it has said so
pub node_refuses : (k : ℕ) (i : Input) (c : ℕ) (v : World) → refused_at i v (at_place k v.nodes) ≡ Some c →
    Says (λ b. b ≡ body.Refused c) (effects_of k i v)
node_refuses k i c v is = by (at_place k v.nodes) is
  where
    by : (o : Option Node) → refused_at i v o ≡ Some c → Says (λ b. b ≡ body.Refused c) (effects_of_node k i v o)
    by None none = absurd (cc none)
    by (Some n) some = let s = refusal_says v.header n i c some in
        until_first (λ b. b ≡ body.Refused c) k n (step v.header n i) (at_number k v.arms) s.0 s.1

-- ---- what is written

-- Lines answer the event, whether the run is then over or not.
abbrev pub Written : Event → World → World → Type 0
Written e w v = (over : Bool) → IsAnswered e w over v.lines

-- what a step says is written
pub says_written : (e : Event) (w v : World) (k : ℕ) (i : Input) (P : Body → Type 0) → v.lines ≡ w.lines → Says P (effects_of k i v) →
    ((over : Bool) (b : Body) → P b → Answers e w over b) → Written e w (steps k i v)
says_written e w v k i P same says good over =
    let s = numbered_in v.event says.line (bodies k (length v.frames) (effects_of k i v))
    (said_of k (length v.frames) says.line (effects_of k i v) says.stands) in
    record {
      before = s.before;
      line = record { event = v.event; body = says.line };
      after = s.after;
      are = steps_lines k i v
          ∙ ((λ j. same j ++ numbered v.event (bodies k (length v.frames) (effects_of k i v))) ∙ ap (λ ls. w.lines ++ ls) s.are);
      answers = good over says.line says.holds;
    }

-- or the halt in its place
pub step_writes : (e : Event) (w v : World) (k : ℕ) (i : Input) (P : Body → Type 0) → v.lines ≡ w.lines → Says (Or P k) (effects_of k i v) →
    IsDone e w → ((b : Body) → P b → IsOwn e w b) → halts_for e w k → Written e w (steps k i v)
step_writes e w v k i P same says done own halts = says_written e w v k i (Or P k) same says by
  where
    by : (over : Bool) (b : Body) → Or P k b → Answers e w over b
    by over b (Its p) = Own done (own b p)
    by over b (Halt is) = HasHalted k done halts is

-- or that the node refuses
pub refusal_writes : (e : Event) (w v : World) (k : ℕ) (i : Input) (c : ℕ) → v.lines ≡ w.lines →
    refused_at i v (at_place k v.nodes) ≡ Some c → IsRefusedWith e w c → Written e w (steps k i v)
refusal_writes e w v k i c same is refused =
    says_written e w v k i (λ b. b ≡ body.Refused c) same (node_refuses k i c v is) (λ over b said. IsRefused c refused said)
