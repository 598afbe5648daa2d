-- Lines that an event adds, as those that may stand in it, with the limit of frames behind them.
use Rattle.arj_law_parts.proofs.Words
use Words.{◌≡◌, ◌⊎◌, ◌∙◌, ◌&&◌, ◌||◌, ◌++◌, not, ℕ, Bool, true, false, cond, List, [], ◌∷◌, refl, sym, ap, inl, inr, ⊎_elim, Option}
use Words.{list_all, and_parts, append_assoc, append-nil, map-append, Body, World, limited, numbered}
use Words.body
use Words.frame
use Rattle.arj_law_runs.proofs.Terms.{says}
use Rattle.arj_law_runs.proofs.Terms.which
use Rattle.arj_law_runs.proofs.follow.Refusing.{same_bodies}
use Rattle.arj_model.specs.CauseSpans.{same_frame}
use Rattle.arj_model.specs.Own.{IsFrameLimit, MayMeetLimit, halts_last, is_node_in, is_work}
use Rattle.arj_model.specs.Past.{block}
use Rattle.arj_protocol.specs.Words.{FrameKind}
use Rattle.arj_law_cause.proofs.follow.lines.Saying.{Adds, Goes, Halts, Through, fits, is_message_line, list_both}

-- ---- the limit of frames

-- the lines of the event, and at the end the limit, where it was met
pub record Limited (P : List Body → Type 0) (w v : World) (bodies : List Body) : Type 0 where
  pub added : List Body
  pub last : List Body
  pub parts : bodies ≡ added ++ last
  pub has : P added
  pub met : ((v.full ≡ false) × (last ≡ [])) ⊎ ((v.full ≡ true) × IsFrameLimit last)

pub limit_parts : (P : List Body → Type 0) (w v : World) (bodies : List Body) → Adds P w v →
    w.lines ++ block w.event bodies ≡ (limited v).lines → Limited P w v bodies
limit_parts P w v bodies a lines = by v.full refl
  where
    by : (b : Bool) → v.full ≡ b → Limited P w v bodies
    by false is = record {
      added = a.added;
      last = [];
      parts = same_bodies w.event bodies a.added w.lines (lines ∙ ap (λ (x : World). x.lines) same ∙ a.lines) ∙ sym (append-nil a.added);
      has = a.has;
      met = inl (is, refl);
    }
      where
        same : limited v ≡ v
        same = λ i. cond (is i) (says (body.Limit which.Frames ∷ []) (record v { over = true })) v
    by true is = record {
      added = a.added;
      last = body.Limit which.Frames ∷ [];
      parts = same_bodies w.event bodies (a.added ++ body.Limit which.Frames ∷ []) w.lines (lines ∙ ap (λ (x : World). x.lines) same ∙ all);
      has = a.has;
      met = inr (is, refl);
    }
      where
        same : limited v ≡ says (body.Limit which.Frames ∷ []) (record v { over = true })
        same = λ i. cond (is i) (says (body.Limit which.Frames ∷ []) (record v { over = true })) v

        all : v.lines ++ numbered v.event (body.Limit which.Frames ∷ [])
            ≡ w.lines ++ block w.event (a.added ++ body.Limit which.Frames ∷ [])
        all = (λ i. a.lines i ++ numbered (a.event i) (body.Limit which.Frames ∷ []))
            ∙ append_assoc w.lines (numbered w.event a.added) (numbered w.event (body.Limit which.Frames ∷ []))
            ∙ ap (λ ls. w.lines ++ ls) (sym (map-append (λ (b : Body). record { event = w.event; body = b }) a.added
            (body.Limit which.Frames ∷ [])))

pub may_meet : (P : List Body → Type 0) (w v : World) (bodies : List Body) (l : Limited P w v bodies) → MayMeetLimit l.last
may_meet P w v bodies l = ⊎_elim (λ none. inl none.1) (λ met. inr met.1) l.met

-- ---- what may stand

-- a message is work
pub message_works : (b : Body) → is_message_line b ≡ true → is_work b ≡ true
message_works (body.Sent k from to what) is = by what is
  where
    by : (w : FrameKind) → not (same_frame w frame.Junk) ≡ true → is_work (body.Sent k from to w) ≡ true
    by frame.Junk off = absurd (cc off)
    by w off = refl
message_works b is = absurd (cc is)

all_of : {A : Type 0} (p q : A → Bool) (xs : List A) → ((x : A) → p x ≡ true → q x ≡ true) → list_all p xs ≡ true → list_all q xs ≡ true
all_of p q [] so all = refl
all_of p q (x ∷ xs) so all = let r = and_parts (p x) (list_all p xs) all in λ i. so x r.0 i && all_of p q xs so r.1 i

pub only_goes : (T : Body → Bool) (may : Body → Bool) (k : ℕ) (bs : List Body) → ((b : Body) → fits T b ≡ true → may b ≡ true) →
    may (body.Halted k) ≡ true → Goes T k bs → list_all may bs ≡ true
only_goes T may k bs so halt (Through all) = all_of (fits T) may bs so all
only_goes T may k bs so halt (Halts front all is) =
    ap (list_all may) is ∙ list_both may front (body.Halted k ∷ []) (all_of (fits T) may front so all) (λ i. halt i && true)

-- ---- halts last

abbrev is_halt : Body → Bool
is_halt (body.Halted n) = true
is_halt b = false

passes : (at : Option ℕ) (b : Body) (bs : List Body) → is_halt b ≡ false → halts_last at (b ∷ bs) ≡ halts_last at bs
passes at (body.Halted n) bs off = absurd (cc off)
passes at b bs off = refl

all_pass : (at : Option ℕ) (front bs : List Body) → list_all (λ b. not (is_halt b)) front ≡ true → halts_last at (front ++ bs)
    ≡ halts_last at bs
all_pass at [] bs all = refl
all_pass at (b ∷ front) bs all =
    let r = and_parts (not (is_halt b)) (list_all (λ c. not (is_halt c)) front) all in
    passes at b (front ++ bs) (off (is_halt b) r.0) ∙ all_pass at front bs r.1
  where
    off : (x : Bool) → not x ≡ true → x ≡ false
    off true is = absurd (cc is)
    off false is = refl

pub halts_goes : (at : Option ℕ) (T : Body → Bool) (k : ℕ) (bs : List Body) → ((n : ℕ) → T (body.Halted n) ≡ false) → is_node_in at k
    ≡ true →
    Goes T k bs → halts_last at bs ≡ true
halts_goes at T k bs none here goes = by goes
  where
    no_halt : (b : Body) → fits T b ≡ true → not (is_halt b) ≡ true
    no_halt (body.Halted n) is = absurd (cc (sym is ∙ (λ i. none n i || false)))
    no_halt b is = refl

    by : Goes T k bs → halts_last at bs ≡ true
    by (Through all) = ap (halts_last at) (sym (append-nil bs)) ∙ all_pass at bs [] (all_of (fits T) (λ b. not (is_halt b)) bs no_halt all)
    by (Halts front all is) =
        ap (halts_last at) is ∙ all_pass at front (body.Halted k ∷ []) (all_of (fits T) (λ b. not (is_halt b)) front no_halt all) ∙ here
