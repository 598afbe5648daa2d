-- Effects as they come out of a step, without the messages of the node to itself: what was sent is then more than these say.
use Rattle.arj_law_parts.proofs.Words
use Words.{◌≡◌, ℕ, Bool, true, false, List, [], ◌∷◌, ◌++◌, refl, subst, inl, inr, ◌==◌, eqb-true, AllByRecursion, if◌then◌else◌}
use Words.{Event, Message, Disk, Effect, Say, Send, Do, Stop, worked, stopped, Parts, Ran, ran, first_queued, first_done, Post}
use Rattle.arj_law_parts.proofs.Terms.{In, Within}
use Rattle.arj_law_parts.specs.moves.Moments.{Moment, fits, framed, framed_if, halted, posted, said, sent, with_sent}
use Rattle.arj_law_parts.specs.moves.With.{WalksWith}

-- what holds for something that was sent besides
abbrev pub Behind : (Moment → Type 0) → Moment → Type 0
Behind Q M = (sent : List Post) × Within M.seen.sent sent × Q (with_sent sent M)

-- a post from one node to another
abbrev pub post : ℕ → ℕ → Message → Post
post from to m = record { from = from; to = to; message = m }

abbrev pub Flat : (Moment → Type 0) → ℕ → List Effect → (Disk → Moment → Type 0) → Disk → Moment → Type 0
Flat P k [] end d M = Behind (end d) M
Flat P k (Do w ∷ es) end d M = ((how : Stop) → Behind (λ N. P (halted k (stopped how w d) N)) M) × Flat P k es end (worked w d) M
Flat P k (Say b ∷ es) end d M = Flat P k es end d (said (b ∷ []) M)
Flat P k (Send to m ∷ es) end d M = Flat P k es end d (framed (post k to m) M)

pub within_same : (sent : List Post) → Within sent sent
within_same sent p h = h

pub within_on : (a b c : List Post) → Within a b → Within b c → Within a c
within_on a b c f g p h = g p (f p h)

pub within_more : (q : Post) (a b : List Post) → Within a b → Within (q ∷ a) (q ∷ b)
within_more q a b f p (inl h) = inl h
within_more q a b f p (inr h) = inr (f p h)

-- where less was sent before
pub flat_less : (P : Moment → Type 0) (k : ℕ) (es : List Effect) (end : Disk → Moment → Type 0) (d : Disk) (M : Moment) (sent : List Post) →
    Within M.seen.sent sent
    → Flat P k es end d (with_sent sent M) → Flat P k es end d M
flat_less P k [] end d M sent fewer f = (f.0, within_on M.seen.sent sent f.0 fewer f.1, f.2)
flat_less P k (Do w ∷ es) end d M sent fewer f =
    ((λ how. let s = f.0 how in (s.0, within_on M.seen.sent sent s.0 fewer s.1, s.2)), flat_less P k es end (worked w d) M sent fewer f.1)
flat_less P k (Say b ∷ es) end d M sent fewer f = flat_less P k es end d (said (b ∷ []) M) sent fewer f
flat_less P k (Send to m ∷ es) end d M sent fewer f = by (fits M)
    (flat_less P k es end d (framed_if true (post k to m) M) (post k to m ∷ sent) (within_more (post k to m) M.seen.sent sent fewer))
    (flat_less P k es end d M sent fewer) f
  where
    Goes : Bool → Type 0
    Goes b = Flat P k es end d (framed_if b (post k to m) (with_sent sent M)) → Flat P k es end d (framed_if b (post k to m) M)

    by : (b : Bool) → Goes true → Goes false → Goes b
    by true t f = t
    by false t f = f

-- with less to show at the end
pub flat_to : (P : Moment → Type 0) (k : ℕ) (es : List Effect) (end last : Disk → Moment → Type 0) (d : Disk) (M : Moment)
    → ((d : Disk) (N : Moment) → end d N → last d N) → Flat P k es end d M → Flat P k es last d M
flat_to P k [] end last d M g f = (f.0, f.1, g d (with_sent f.0 M) f.2)
flat_to P k (Do w ∷ es) end last d M g f = (f.0, flat_to P k es end last (worked w d) M g f.1)
flat_to P k (Say b ∷ es) end last d M g f = flat_to P k es end last d (said (b ∷ []) M) g f
flat_to P k (Send to m ∷ es) end last d M g f = flat_to P k es end last d (framed (post k to m) M) g f

-- one list after another
pub flat_on : (P : Moment → Type 0) (k : ℕ) (es fs : List Effect) (end last : Disk → Moment → Type 0) (d : Disk) (M : Moment)
    → Flat P k es end d M → ((d : Disk) (N : Moment) → end d N → Flat P k fs last d N) → Flat P k (es ++ fs) last d M
flat_on P k [] fs end last d M f g = flat_less P k fs last d M f.0 f.1 (g d (with_sent f.0 M) f.2)
flat_on P k (Do w ∷ es) fs end last d M f g = (f.0, flat_on P k es fs end last (worked w d) M f.1 g)
flat_on P k (Say b ∷ es) fs end last d M f g = flat_on P k es fs end last d (said (b ∷ []) M) f g
flat_on P k (Send to m ∷ es) fs end last d M f g = flat_on P k es fs end last d (framed (post k to m) M) f g

-- at the end and these were sent
abbrev pub With : List Post → (Disk → Moment → Type 0) → Disk → Moment → Type 0
With base end d M = end d M × Within base M.seen.sent

-- what was sent before was sent at the end
pub flat_keeps : (P : Moment → Type 0) (k : ℕ) (base : List Post) (es : List Effect) (end : Disk → Moment → Type 0) (d : Disk)
    (M : Moment) →
    Within base M.seen.sent
    → Flat P k es end d M → Flat P k es (With base end) d M
flat_keeps P k base [] end d M fewer f = (f.0, f.1, (f.2, within_on base M.seen.sent f.0 fewer f.1))
flat_keeps P k base (Do w ∷ es) end d M fewer f = (f.0, flat_keeps P k base es end (worked w d) M fewer f.1)
flat_keeps P k base (Say b ∷ es) end d M fewer f = flat_keeps P k base es end d (said (b ∷ []) M) fewer f
flat_keeps P k base (Send to m ∷ es) end d M fewer f = by (fits M)
    (flat_keeps P k base es end d (framed_if true (post k to m) M) (λ q h. inr (fewer q h))) (flat_keeps P k base es end d M fewer) f
  where
    Goes : Bool → Type 0
    Goes b = Flat P k es end d (framed_if b (post k to m) M) → Flat P k es (With base end) d (framed_if b (post k to m) M)

    by : (b : Bool) → Goes true → Goes false → Goes b
    by true t f = t
    by false t f = f

-- the event is the same at the end
pub flat_event : (P : Moment → Type 0) (k : ℕ) (e : Event) (es : List Effect) (end : Disk → Moment → Type 0) (d : Disk) (M : Moment) →
    M.past.event ≡ e → Flat P k es end d M → Flat P k es (λ c N. end c N × (N.past.event ≡ e)) d M
flat_event P k e [] end d M is f = (f.0, f.1, (f.2, is))
flat_event P k e (Do w ∷ es) end d M is f = (f.0, flat_event P k e es end (worked w d) M is f.1)
flat_event P k e (Say b ∷ es) end d M is f = flat_event P k e es end d (said (b ∷ []) M) is f
flat_event P k e (Send to m ∷ es) end d M is f = by (fits M)
    (flat_event P k e es end d (framed_if true (post k to m) M) is) (flat_event P k e es end d M is) f
  where
    Goes : Bool → Type 0
    Goes b = Flat P k es end d (framed_if b (post k to m) M) →
        Flat P k es (λ c N. end c N × (N.past.event ≡ e)) d (framed_if b (post k to m) M)

    by : (b : Bool) → Goes true → Goes false → Goes b
    by true t f = t
    by false t f = f

-- ---- from a handler's effects

-- the messages to itself are among those that were sent
abbrev pub AreSent : ℕ → List Message → List Post → Type 0
AreSent k ms sent = AllByRecursion (λ m. In (record { from = k; to = k; message = m }) sent) ms

pub are_sent : (k : ℕ) (ms : List Message) (a b : List Post) → Within a b → AreSent k ms a → AreSent k ms b
are_sent k [] a b f h = tt
are_sent k (m ∷ ms) a b f h = (f (record { from = k; to = k; message = m }) h.0, are_sent k ms a b f h.1)

-- the parts are those that the handler left
pub ran_parts : (k : ℕ) (t : Parts) (es : List Effect) (d : Disk) → (ran k t es d).here.parts ≡ t
ran_parts k t [] d = refl
ran_parts k t (Say b ∷ es) d = ran_parts k t es d
ran_parts k t (Do w ∷ es) d = ran_parts k t es (worked w d)
ran_parts k t (Send to m ∷ es) d = by (to == k) (ran_parts k t es d)
  where
    by : (b : Bool) → (ran k t es d).here.parts ≡ t →
        (if b then first_queued m (ran k t es d) else first_done (Send to m) (ran k t es d)).here.parts ≡ t
    by true ih = ih
    by false ih = ih

-- after these effects: the disk, the messages to itself, and what holds at the end
abbrev pub Left : ℕ → Ran → (Disk → Moment → Type 0) → Disk → Moment → Type 0
Left k r end d M = (d ≡ r.here.disk) × AreSent k r.queue M.seen.sent × end d M

pub walks_flat : (P : Moment → Type 0) (k : ℕ) (t : Parts) (es : List Effect) (end : Disk → Moment → Type 0) (d : Disk) (M : Moment)
    → WalksWith P k es end d M → Flat P k (ran k t es d).outs (Left k (ran k t es d) end) d M
walks_flat P k t [] end d M w = (M.seen.sent, within_same M.seen.sent, (refl, tt, w))
walks_flat P k t (Say b ∷ es) end d M w = walks_flat P k t es end d (said (b ∷ []) M) w
walks_flat P k t (Do v ∷ es) end d M w = (
  (λ how. (M.seen.sent, within_same M.seen.sent, w.0 how)),
  walks_flat P k t es end
      (worked v d) M w.1,
)
walks_flat P k t (Send to m ∷ es) end d M w = by (to == k) refl w (walks_flat P k t es end d)
  where
    p : Post
    p = post k to m

    one : Bool → Ran
    one b = if b then first_queued m (ran k t es d) else first_done (Send to m) (ran k t es d)

    itself : to ≡ k → (N : Moment) → In p N.seen.sent → In (post k k m) N.seen.sent
    itself is N h = subst (λ n. In (post k n m) N.seen.sent) is h

    by : (b : Bool) → (to == k) ≡ b → WalksWith P k es end d (if b then posted p M else framed p M)
        → ((N : Moment) → WalksWith P k es end d N → Flat P k (ran k t es d).outs (Left k (ran k t es d) end) d N)
        → Flat P k (one b).outs (Left k (one b) end) d M
    by true is w ih =
        flat_to P k (ran k t es d).outs (With (p ∷ []) (Left k (ran k t es d) end)) (Left k (one true) end) d M
        (λ c N f. (f.0.0, (itself (eqb-true to k is) N (f.1 p (inl refl)), f.0.1), f.0.2))
        (flat_less P k (ran k t es d).outs (With (p ∷ []) (Left k (ran k t es d) end)) d M (p ∷ M.seen.sent) (λ q h. inr h)
        (flat_keeps P k (p ∷ []) (ran k t es d).outs (Left k (ran k t es d) end) d (posted p M)
        (within_more p [] M.seen.sent (λ q h. absurd h)) (ih (posted p M) w)))
    by false is w ih = ih (framed p M) w
