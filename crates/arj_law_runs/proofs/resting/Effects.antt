-- What a handler's effects leave: what is sent, what is said, and what is seen behind them.
use Rattle.arj_law_parts.proofs.Words
use Words.{◌≡◌, ◌⊎◌, ◌∙◌, ℕ, Bool, true, false, List, [], ◌∷◌, ◌++◌, refl, sym, ap, subst, inl, inr, ⊎_elim, eqb-true, append-nil, ◌==◌}
use Words.{if◌then◌else◌, in_from, in_to, Body, Line, Message, Abort, Commit, Disk, Do, Effect, Look, Prepare, PutInc, PutIntent}
use Words.{RemoveIntent, Say, Send, worked, Parts, first_done, first_queued, ran, Seen, IsSaid}
use Words.list as members
use Rattle.arj_law_runs.proofs.Terms.{In, Within, posted, said, Walks, AreLooks}
use Rattle.arj_law_runs.proofs.resting.Ways.{post_of}

-- ---- a handler's effects

-- what is seen behind these effects
abbrev pub after : ℕ → ℕ → List Effect → Seen → Seen
after e k [] M = M
after e k (Do w ∷ es) M = after e k es M
after e k (Say b ∷ es) M = after e k es (said e (b ∷ []) M)
after e k (Send to m ∷ es) M = after e k es (said e [] (posted (post_of k to m) M))

abbrev pub works : List Effect → Disk → Disk
works [] d = d
works (Do w ∷ es) d = works es (worked w d)
works (Say b ∷ es) d = works es d
works (Send to m ∷ es) d = works es d

pub walk_end : (P : Seen → Type 0) (e k : ℕ) (es : List Effect) (end : Disk → Seen → Type 0) (d : Disk) (M : Seen) →
    Walks P e k es end d M → end (works es d) (after e k es M)
walk_end P e k [] end d M w = w
walk_end P e k (Do v ∷ es) end d M w = walk_end P e k es end (worked v d) M w.1
walk_end P e k (Say b ∷ es) end d M w = walk_end P e k es end d (said e (b ∷ []) M) w
walk_end P e k (Send to m ∷ es) end d M w = walk_end P e k es end d (said e [] (posted (post_of k to m) M)) (w [] refl)

pub ran_here : (k : ℕ) (t : Parts) (es : List Effect) (d : Disk) → (ran k t es d).here ≡ record { disk = works es d; parts = t }
ran_here k t [] d = refl
ran_here k t (Do w ∷ es) d = ran_here k t es (worked w d)
ran_here k t (Say b ∷ es) d = ran_here k t es d
ran_here k t (Send to m ∷ es) d = by (to == k) (ran_here k t es d)
  where
    by : (b : Bool) → (ran k t es d).here ≡ record { disk = works es d; parts = t } →
        (if b then first_queued m (ran k t es d) else first_done (Send to m) (ran k t es d)).here ≡ record { disk = works es d; parts = t }
    by true ih = ih
    by false ih = ih

sent_to : (a b : ℕ) (x y : Message) → Send a x ≡ Send b y → a ≡ b
sent_to a b x y is = cc is

sent_is : (a b : ℕ) (x y : Message) → Send a x ≡ Send b y → x ≡ y
sent_is a b x y is = cc is

-- what is sent waits at the node, or goes out
pub ran_sent : (k : ℕ) (t : Parts) (es : List Effect) (d : Disk) (to : ℕ) (m : Message) → members.In (Send to m) es →
    ((to ≡ k) × members.In m (ran k t es d).queue) ⊎ members.In (Send to m) (ran k t es d).outs
ran_sent k t [] d to m i = absurd i
ran_sent k t (Do w ∷ es) d to m (inl is) = absurd (cc is)
ran_sent k t (Do w ∷ es) d to m (inr i) = ⊎_elim (λ own. inl own) (λ out. inr (inr out)) (ran_sent k t es (worked w d) to m i)
ran_sent k t (Say b ∷ es) d to m (inl is) = absurd (cc is)
ran_sent k t (Say b ∷ es) d to m (inr i) = ⊎_elim (λ own. inl own) (λ out. inr (inr out)) (ran_sent k t es d to m i)
ran_sent k t (Send j x ∷ es) d to m i = by (j == k) refl i (ran_sent k t es d to m)
  where
    by : (b : Bool) → (j == k) ≡ b → (Send j x ≡ Send to m) ⊎ members.In (Send to m) es →
        (members.In (Send to m) es → ((to ≡ k) × members.In m (ran k t es d).queue) ⊎ members.In (Send to m) (ran k t es d).outs)
        → ((to ≡ k) × members.In m (if b then first_queued x (ran k t es d) else first_done (Send j x) (ran k t es d)).queue)
        ⊎ members.In (Send to m) (if b then first_queued x (ran k t es d) else first_done (Send j x) (ran k t es d)).outs
    by true same (inl is) ih = inl (sym (sent_to j to x m is) ∙ eqb-true j k same, inl (sent_is j to x m is))
    by true same (inr there) ih = ⊎_elim (λ own. inl (own.0, inr own.1)) (λ out. inr out) (ih there)
    by false apart (inl is) ih = inr (inl is)
    by false apart (inr there) ih = ⊎_elim (λ own. inl own) (λ out. inr (inr out)) (ih there)

pub ran_said : (k : ℕ) (t : Parts) (es : List Effect) (d : Disk) (b : Body) → members.In (Say b) es → members.In (Say b) (ran k t es d).outs
ran_said k t [] d b i = absurd i
ran_said k t (Do w ∷ es) d b (inl is) = absurd (cc is)
ran_said k t (Do w ∷ es) d b (inr i) = inr (ran_said k t es (worked w d) b i)
ran_said k t (Say c ∷ es) d b (inl is) = inl is
ran_said k t (Say c ∷ es) d b (inr i) = inr (ran_said k t es d b i)
ran_said k t (Send to m ∷ es) d b (inl is) = absurd (cc is)
ran_said k t (Send to m ∷ es) d b (inr i) = by (to == k) (ran_said k t es d b i)
  where
    by : (t_is : Bool) → members.In (Say b) (ran k t es d).outs →
        members.In (Say b) (if t_is then first_queued m (ran k t es d) else first_done (Send to m) (ran k t es d)).outs
    by true ih = ih
    by false ih = inr ih

-- ---- what is seen behind them

pub after_nodes : (e k : ℕ) (es : List Effect) (M : Seen) → (after e k es M).nodes ≡ M.nodes
after_nodes e k [] M = refl
after_nodes e k (Do w ∷ es) M = after_nodes e k es M
after_nodes e k (Say b ∷ es) M = after_nodes e k es (said e (b ∷ []) M)
after_nodes e k (Send to m ∷ es) M = after_nodes e k es (said e [] (posted (post_of k to m) M))

pub after_within : (e k : ℕ) (es : List Effect) (M : Seen) → Within M.sent (after e k es M).sent
after_within e k [] M p i = i
after_within e k (Do w ∷ es) M p i = after_within e k es M p i
after_within e k (Say b ∷ es) M p i = after_within e k es (said e (b ∷ []) M) p i
after_within e k (Send to m ∷ es) M p i = after_within e k es (said e [] (posted (post_of k to m) M)) p (inr i)

pub after_sent : (e k : ℕ) (es : List Effect) (M : Seen) (to : ℕ) (m : Message) → members.In (Send to m) es →
    In (post_of k to m) (after e k es M).sent
after_sent e k [] M to m i = absurd i
after_sent e k (Do w ∷ es) M to m (inl is) = absurd (cc is)
after_sent e k (Do w ∷ es) M to m (inr i) = after_sent e k es M to m i
after_sent e k (Say b ∷ es) M to m (inl is) = absurd (cc is)
after_sent e k (Say b ∷ es) M to m (inr i) = after_sent e k es (said e (b ∷ []) M) to m i
after_sent e k (Send j x ∷ es) M to m (inl is) = after_within e k es (said e [] (posted (post_of k j x) M)) (post_of k to m)
    (inl (λ i. post_of k (sent_to j to x m is i) (sent_is j to x m is i)))
after_sent e k (Send j x ∷ es) M to m (inr i) = after_sent e k es (said e [] (posted (post_of k j x) M)) to m i

-- a line of these, or the new one
said_one : (lines : List Line) (e : ℕ) (c b : Body) → IsSaid (lines ++ record { event = e; body = c } ∷ []) b → IsSaid lines b ⊎ (c ≡ b)
said_one lines e c b s = ⊎_elim (λ old. inl (s.0, in_to s.0 lines old, s.2)) (λ new. inr (ap (λ (l : Line). l.body) new ∙ s.2))
    (last lines (in_from s.0 (lines ++ record { event = e; body = c } ∷ []) s.1))
  where
    last : (ls : List Line) → members.In s.0 (ls ++ record { event = e; body = c } ∷ []) →
        members.In s.0 ls ⊎ (record { event = e; body = c } ≡ s.0)
    last [] (inl is) = inr is
    last [] (inr i) = absurd i
    last (l ∷ ls) (inl is) = inl (inl is)
    last (l ∷ ls) (inr i) = ⊎_elim (λ old. inl (inr old)) (λ new. inr new) (last ls i)

pub after_lines : (e k : ℕ) (es : List Effect) (M : Seen) (b : Body) → IsSaid (after e k es M).lines b →
    IsSaid M.lines b ⊎ members.In (Say b) es
after_lines e k [] M b s = inl s
after_lines e k (Do w ∷ es) M b s = ⊎_elim (λ old. inl old) (λ new. inr (inr new)) (after_lines e k es M b s)
after_lines e k (Say c ∷ es) M b s = ⊎_elim (λ old. ⊎_elim (λ older. inl older) (λ is. inr (inl (ap Say is))) (said_one M.lines e c b old))
    (λ new. inr (inr new)) (after_lines e k es (said e (c ∷ []) M) b s)
after_lines e k (Send to m ∷ es) M b s = ⊎_elim (λ old. inl (subst (λ ls. IsSaid ls b) (append-nil M.lines) old)) (λ new. inr (inr new))
    (after_lines e k es (said e [] (posted (post_of k to m) M)) b s)

-- looks alone change nothing
pub looks_ran : (k : ℕ) (t : Parts) (es : List Effect) (d : Disk) → AreLooks es →
    ((ran k t es d).here ≡ record { disk = d; parts = t }) × ((ran k t es d).queue ≡ [])
looks_ran k t [] d looks = (refl, refl)
looks_ran k t (Do Look ∷ es) d looks = looks_ran k t es d looks
looks_ran k t (Do (PutInc i) ∷ es) d looks = absurd (cc looks)
looks_ran k t (Do (Prepare r u s) ∷ es) d looks = absurd (cc looks)
looks_ran k t (Do (Commit r u) ∷ es) d looks = absurd (cc looks)
looks_ran k t (Do (Abort r u) ∷ es) d looks = absurd (cc looks)
looks_ran k t (Do (PutIntent u i) ∷ es) d looks = absurd (cc looks)
looks_ran k t (Do (RemoveIntent u) ∷ es) d looks = absurd (cc looks)
looks_ran k t (Say b ∷ es) d looks = absurd (cc looks)
looks_ran k t (Send to m ∷ es) d looks = absurd (cc looks)

-- and send nothing
pub looks_send : (es : List Effect) (to : ℕ) (m : Message) → AreLooks es → members.In (Send to m) es → ⊥
looks_send [] to m looks i = i
looks_send (Do Look ∷ es) to m looks (inl is) = absurd (cc is)
looks_send (Do Look ∷ es) to m looks (inr i) = looks_send es to m looks i
looks_send (Do (PutInc j) ∷ es) to m looks i = absurd (cc looks)
looks_send (Do (Prepare r u s) ∷ es) to m looks i = absurd (cc looks)
looks_send (Do (Commit r u) ∷ es) to m looks i = absurd (cc looks)
looks_send (Do (Abort r u) ∷ es) to m looks i = absurd (cc looks)
looks_send (Do (PutIntent u j) ∷ es) to m looks i = absurd (cc looks)
looks_send (Do (RemoveIntent u) ∷ es) to m looks i = absurd (cc looks)
looks_send (Say b ∷ es) to m looks i = absurd (cc looks)
looks_send (Send j x ∷ es) to m looks i = absurd (cc looks)

-- what goes out is sent by these effects
pub ran_from : (k : ℕ) (t : Parts) (es : List Effect) (d : Disk) (to : ℕ) (m : Message) → members.In (Send to m) (ran k t es d).outs →
    members.In (Send to m) es
ran_from k t [] d to m i = i
ran_from k t (Do w ∷ es) d to m (inl is) = absurd (cc is)
ran_from k t (Do w ∷ es) d to m (inr i) = inr (ran_from k t es (worked w d) to m i)
ran_from k t (Say b ∷ es) d to m (inl is) = absurd (cc is)
ran_from k t (Say b ∷ es) d to m (inr i) = inr (ran_from k t es d to m i)
ran_from k t (Send j x ∷ es) d to m i = by (j == k) i (ran_from k t es d to m)
  where
    by : (b : Bool) → members.In (Send to m) (if b then first_queued x (ran k t es d) else first_done (Send j x) (ran k t es d)).outs →
        (members.In (Send to m) (ran k t es d).outs → members.In (Send to m) es) → members.In (Send to m) (Send j x ∷ es)
    by true i rest = inr (rest i)
    by false (inl is) rest = inl is
    by false (inr i) rest = inr (rest i)
