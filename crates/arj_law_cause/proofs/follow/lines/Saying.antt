-- Which lines a step of a node writes: those of its effects, with its frames, and maybe its halt as the last.
use Rattle.arj_law_parts.proofs.Words
use Words.{◌≡◌, ◌∙◌, ◌+◌, ◌-◌, ◌==◌, ◌&&◌, ◌||◌, ◌++◌, not, ℕ, zero, suc, Bool, true, false, cond, List, [], ◌∷◌, length, map, refl, sym}
use Words.{ap, Option, Some, None, list_all, and_parts, or_left, or_right, append_assoc, nat_le, nat_lt, all_both, AreAll, Body, Message}
use Words.{Effect, Say, Send, Do, Disk, Stop, worked, Node, Step, Parts, ran, first_done, first_queued, whole, most_rounds, World, Arm}
use Words.{armed, bodies, count_works, cut, disarmed, done_step, frame_kind, halted_at, halted_outs, most_frames, numbered, sent_line}
use Words.{step_with}
use Words.body
use Words.frame
use Words.message
use Rattle.arj_model.specs.CauseSpans.{same_frame}
use Rattle.arj_law_cause.proofs.follow.lines.Working.{Work, rounds_work, says_work, works}

-- a frame with a message
abbrev pub is_message_line : Body → Bool
is_message_line (body.Sent k from to what) = not (same_frame what frame.Junk)
is_message_line b = false

message_line : (k from to : ℕ) (m : Message) → is_message_line (body.Sent k from to (frame_kind m)) ≡ true
message_line k from to (message.Bind m) = refl
message_line k from to (message.Bound m) = refl
message_line k from to (message.Load m) = refl
message_line k from to (message.Loaded m) = refl
message_line k from to (message.Activate m) = refl
message_line k from to (message.Activated m) = refl
message_line k from to (message.RecordMsg m) = refl
message_line k from to (message.Recorded m) = refl
message_line k from to (message.Invoke m) = refl
message_line k from to (message.Invoked m) = refl
message_line k from to (message.Vote m) = refl
message_line k from to (message.Voted m) = refl
message_line k from to (message.Prepare m) = refl
message_line k from to (message.Prepared m) = refl
message_line k from to (message.Confirm m) = refl
message_line k from to (message.Confirmed m) = refl
message_line k from to (message.Told m) = refl
message_line k from to (message.Acked m) = refl
message_line k from to (message.Query m) = refl
message_line k from to (message.Hello m) = refl

pub list_both : {A : Type 0} (p : A → Bool) (xs ys : List A) → list_all p xs ≡ true → list_all p ys ≡ true → list_all p (xs ++ ys) ≡ true
list_both p [] ys a b = b
list_both p (x ∷ xs) ys a b = let q = and_parts (p x) (list_all p xs) a in λ i. q.0 i && list_both p xs ys q.1 b i

-- the lines of own effects
abbrev pub say_all : List Body → List Effect
say_all own = map Say own

pub own_bodies : (n j : ℕ) (own : List Body) (es : List Effect) → bodies n j (say_all own ++ es) ≡ own ++ bodies n j es
own_bodies n j [] es = refl
own_bodies n j (b ∷ own) es = ap (λ (bs : List Body). b ∷ bs) (own_bodies n j own es)

pub own_cut : (c : ℕ) (how : Stop) (own : List Body) (es : List Effect) (d : Disk) →
    (cut c how (say_all own ++ es) d).outs ≡ say_all own ++ (cut c how es d).outs
own_cut c how [] es d = refl
own_cut zero how (b ∷ own) es d = ap (λ (fs : List Effect). Say b ∷ fs) (own_cut zero how own es d)
own_cut (suc c) how (b ∷ own) es d = ap (λ (fs : List Effect). Say b ∷ fs) (own_cut (suc c) how own es d)

pub own_ran : (n : ℕ) (t : Parts) (own : List Body) (es : List Effect) (d : Disk) →
    (ran n t (say_all own ++ es) d).outs ≡ say_all own ++ (ran n t es d).outs
own_ran n t [] es d = refl
own_ran n t (b ∷ own) es d = ap (λ (fs : List Effect). Say b ∷ fs) (own_ran n t own es d)

last_body : (n j : ℕ) (es : List Effect) (b : Body) → bodies n j (es ++ Say b ∷ []) ≡ bodies n j es ++ b ∷ []
last_body n j [] b = refl
last_body n j (Say c ∷ es) b = ap (λ (bs : List Body). c ∷ bs) (last_body n j es b)
last_body n j (Do w ∷ es) b = last_body n j es b
last_body n j (Send to m ∷ es) b =
    ap (λ bs. sent_line (j + 1) n to (frame_kind m) ++ bs) (last_body n (j + 1) es b)
    ∙ sym (append_assoc (sent_line (j + 1) n to (frame_kind m)) (bodies n (j + 1) es) (b ∷ []))

-- lines of a kind
module _ (T : Body → Bool) where
  -- the line is of this kind, or of a frame with a message
  abbrev pub fits : Body → Bool
  fits b = T b || is_message_line b

  abbrev pub says_such : Effect → Bool
  says_such (Say b) = T b
  says_such e = true

  abbrev pub Such : List Effect → Type 0
  Such outs = AreAll says_such outs

  -- Such lines, and maybe a halt of the node as the last.
  pub data Goes (k : ℕ) (bs : List Body) : Type 0 where
    Through : list_all fits bs ≡ true → Goes k bs
    Halts : (front : List Body) → list_all fits front ≡ true → bs ≡ front ++ body.Halted k ∷ [] → Goes k bs

  pub such_bodies : (n j : ℕ) (es : List Effect) → Such es → list_all fits (bodies n j es) ≡ true
  such_bodies n j [] all = refl
  such_bodies n j (Say b ∷ es) all =
      let p = and_parts (T b) (list_all says_such es) all in
      λ i. or_left (T b) (is_message_line b) p.0 i && such_bodies n j es p.1 i
  such_bodies n j (Do w ∷ es) all = such_bodies n j es all
  such_bodies n j (Send to m ∷ es) all =
      list_both fits (sent_line (j + 1) n to (frame_kind m)) (bodies n (j + 1) es) (by (nat_le (j + 1) most_frames))
      (such_bodies n (j + 1) es all)
    where
      its : fits (body.Sent (j + 1) n to (frame_kind m)) ≡ true
      its = or_right (T (body.Sent (j + 1) n to (frame_kind m))) (is_message_line (body.Sent (j + 1) n to (frame_kind m)))
          (message_line (j + 1) n to m)

      by : (b : Bool) → list_all fits (cond b (body.Sent (j + 1) n to (frame_kind m) ∷ []) []) ≡ true
      by true = λ i. its i && true
      by false = refl

  pub such_cut : (c : ℕ) (how : Stop) (es : List Effect) (d : Disk) → Such es → Such (cut c how es d).outs
  such_cut c how [] d all = refl
  such_cut zero how (Do w ∷ es) d all = refl
  such_cut (suc c) how (Do w ∷ es) d all = such_cut c how es (worked w d) all
  such_cut zero how (Say b ∷ es) d all =
      let p = and_parts (T b) (list_all says_such es) all in λ i. p.0 i && such_cut zero how es d p.1 i
  such_cut (suc c) how (Say b ∷ es) d all =
      let p = and_parts (T b) (list_all says_such es) all in λ i. p.0 i && such_cut (suc c) how es d p.1 i
  such_cut zero how (Send to m ∷ es) d all = such_cut zero how es d all
  such_cut (suc c) how (Send to m ∷ es) d all = such_cut (suc c) how es d all

  pub goes_through : (k j : ℕ) (es : List Effect) → Such es → Goes k (bodies k j es)
  goes_through k j es all = Through (such_bodies k j es all)

  pub goes_halted : (k j c : ℕ) (how : Stop) (es : List Effect) (d : Disk) → Such es →
      Goes k (bodies k j (halted_outs k (cut c how es d)))
  goes_halted k j c how es d all =
      Halts (bodies k j (cut c how es d).outs) (such_bodies k j (cut c how es d).outs (such_cut c how es d all))
      (last_body k j (cut c how es d).outs (body.Halted k))

  pub such_ran : (n : ℕ) (t : Parts) (es : List Effect) (d : Disk) → Such es → Such (ran n t es d).outs
  such_ran n t [] d all = refl
  such_ran n t (Say b ∷ es) d all = let own = and_parts (T b) (list_all says_such es) all in
      λ i. own.0 i && such_ran n t es d own.1 i
  such_ran n t (Do w ∷ es) d all = such_ran n t es (worked w d) all
  such_ran n t (Send to m ∷ es) d all = by (to == n) (such_ran n t es d all)
    where
      by : (b : Bool) → Such (ran n t es d).outs → Such (cond b (first_queued m (ran n t es d))
          (first_done (Send to m) (ran n t es d))).outs
      by true rest = rest
      by false rest = rest

  -- what is work is of this kind
  module _ (covers : (b : Body) → works b ≡ true → T b ≡ true) where
    pub such_work : (es : List Effect) → Work es → Such es
    such_work [] all = refl
    such_work (Say b ∷ es) all =
        let p = and_parts (works b) (list_all says_work es) all in λ i. covers b p.0 i && such_work es p.1 i
    such_work (Send to m ∷ es) all = such_work es all
    such_work (Do w ∷ es) all = such_work es all

    -- own lines, and then such lines
    pub led_whole : (n : ℕ) (t : Parts) (own : List Body) (es : List Effect) (d : Disk) → Such es →
        (fs : List Effect) × ((whole n t (say_all own ++ es) d).outs ≡ say_all own ++ fs) × Such fs
    led_whole n t own es d all =
        let r = rounds_work n most_rounds (ran n t (say_all own ++ es) d) in (
          (ran n t es d).outs ++ r.0,
          r.1 ∙ ap (λ fs. fs ++ r.0) (own_ran n t own es d) ∙ append_assoc (say_all own) (ran n t es d).outs r.0,
          all_both says_such (ran n t es d).outs r.0 (such_ran n t es d all) (such_work r.0 r.2),
        )

-- ---- a step in the world

-- the world has these lines more
pub record Adds (P : List Body → Type 0) (w v : World) : Type 0 where
  pub added : List Body
  pub lines : v.lines ≡ w.lines ++ numbered w.event added
  pub event : v.event ≡ w.event
  pub has : P added

-- what is said of a step's lines, whether it goes through or a stop falls in it
pub record Tells (P : List Body → Type 0) (k : ℕ) (d : Disk) (s : Step) : Type 0 where
  pub through : (j : ℕ) → P (bodies k j s.outs)
  pub halted : (j c : ℕ) (how : Stop) → P (bodies k j (halted_outs k (cut c how s.halting d)))

pub step_adds : (P : List Body → Type 0) (k : ℕ) (n : Node) (s : Step) (w : World) (o : Option Arm) → Tells P k n.disk s →
    Adds P w (step_with k n s w o)
step_adds P k n s w None tells = record {
  added = bodies k (length w.frames) s.outs;
  lines = refl;
  event = refl;
  has = tells.through
      (length w.frames);
}
step_adds P k n s w (Some a) tells = by (nat_lt (count_works s.halting) a.works)
  where
    by : (b : Bool) → Adds P w (cond b (done_step k s (armed k (record a { works = a.works - count_works s.halting }) w))
        (halted_at k n (cut (a.works - 1) a.how s.halting n.disk) (disarmed k w)))
    by true = record { added = bodies k (length w.frames) s.outs; lines = refl; event = refl; has = tells.through (length w.frames) }
    by false = record {
      added = bodies k (length w.frames) (halted_outs k (cut (a.works - 1) a.how s.halting n.disk));
      lines = refl;
      event = refl;
      has = tells.halted (length w.frames) (a.works - 1) a.how;
    }

-- ---- own lines in front

-- own lines, and then lines of a kind with maybe a halt
pub record Led (T : Body → Bool) (Own : List Body → Type 0) (k : ℕ) (bs : List Body) : Type 0 where
  pub own : List Body
  pub others : List Body
  pub parts : bs ≡ own ++ others
  pub is_own : Own own
  pub rest : Goes T k others

-- a step that says its own lines first
pub led_tells : (T : Body → Bool) (Own : List Body → Type 0) (k : ℕ) (d : Disk) (s : Step) (own : List Body) (fs : List Effect) →
    s.outs ≡ say_all own ++ fs → s.halting ≡ say_all own ++ fs → Such T fs → Own own → Tells (Led T Own k) k d s
led_tells T Own k d s own fs outs halting such its = record {
  through = λ j. record {
    own = own;
    others = bodies k j fs;
    parts = ap (bodies k j) outs ∙ own_bodies k j own fs;
    is_own = its;
    rest = goes_through T k j fs such;
  };
  halted = λ j c how. record {
    own = own;
    others = bodies k j (halted_outs k (cut c how fs d));
    parts = ap (bodies k j) (ap (λ es. (cut c how es d).outs ++ Say (body.Halted k) ∷ []) halting
        ∙ ap (λ es. es ++ Say (body.Halted k) ∷ []) (own_cut c how own fs d)
        ∙ append_assoc (say_all own) (cut c how fs d).outs (Say (body.Halted k) ∷ []))
        ∙ own_bodies k j own ((cut c how fs d).outs ++ Say (body.Halted k) ∷ []);
    is_own = its;
    rest = goes_halted T k j c how fs d such;
  };
}
