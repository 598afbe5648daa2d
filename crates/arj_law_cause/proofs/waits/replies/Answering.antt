-- A call or an include that waits is answered by a line: by the journal it was waited for, and behind the line it isn't any more.
use Rattle.arj_law.proofs.Reading.{read_none}
use Rattle.arj_law_parts.proofs.Words
use Words.{◌≡◌, ◌∙◌, ◌+◌, ◌++◌, ◌||◌, ℕ, true, false, if◌then◌else◌, List, [], ◌∷◌, length, Option, Some, None}
use Words.{refl, sym, ap, subst, nat_lt, append-nil, append_assoc, is_some, option_map, Body, Label, Line, name, Doing}
use Words.{CallEnd, Goal, Steps, Answered, Included, Conflict, Changed, Lost, Run, end_line, numbered, bytes_eq-Decides}
use Words.body
use Words.calls
use Rattle.arj_law_runs.proofs.Terms.{Act, act_in, acts}
use Rattle.arj_law_runs.proofs.journal.Owners.{acts_more}
use Rattle.arj_law_parts.specs.moves.Moments.{Asking}
use Rattle.arj_model.specs.Actions.{begun_of, ended_of, halt_of, has_end, is_halted, numbered as numbered_acts}
use Rattle.arj_model.specs.Follows.{IsCallOf, IsIncludeOf}
use Rattle.arj_model.specs.Past.{Asked as AskedOf, block}
use Rattle.arj_model.specs.Refusals.{asks_by, has_ended, is_over_act, last_asked, waits_for, answers_to}
use Rattle.arj_law_lock_view.proofs.asking.Tying.{NoReplies, answers_stay, giveup_dumb, one_more, reply_line}
use Rattle.arj_law_lock_view.specs.asking.Asked.{accepted_of, asks_goal, count_answers, count_asks}
use Rattle.arj_law_lock_view.specs.asking.Turns.{FitsGoal, is_giveup, is_reply}
use Rattle.arj_law_cause.proofs.waits.waiting.Waiting.{all_answered, one_left}
use Rattle.arj_law_cause.specs.waits.replies.Ends.{EndWaits, EndsWait, NoneWaits}

-- ---- lines by which no action begins or ends

-- by this line no action begins, none ends, and no node halts
abbrev pub IsMild : Body → Type 0
IsMild b = (begun_of b ≡ None) × ((xs : List Act) → ended_of xs b ≡ None) × ((xs : List Act) → halt_of xs b ≡ None)

mild_acts : (l : Line) → IsMild l.body → (ls : List Line) → acts (ls ++ l ∷ []) ≡ acts ls
mild_acts l mild ls = acts_more [] ls (l ∷ []) ∙ ap (numbered_acts (acts ls)) mild.0

pub mild_ended : (l : Line) → IsMild l.body → (ls : List Line) (m : List ℕ) → has_ended (ls ++ l ∷ []) m ≡ has_ended ls m
mild_ended l mild ls m = (λ i. is_over_act (ls ++ l ∷ []) (act_in (mild_acts l mild ls i) m)) ∙ by (act_in (acts ls) m)
  where
    by : (o : Option Act) → is_over_act (ls ++ l ∷ []) o ≡ is_over_act ls o
    by None = refl
    by (Some a) = λ i. has_end (read_none ended_of ls l (mild.1 (acts ls)) i) a.id || is_halted (read_none halt_of ls l (mild.2 (acts ls)) i) a

giveup_mild : (b : Body) → is_giveup b ≡ true → IsMild b
giveup_mild (body.GaveUp l n) is = (refl, (λ xs. refl), λ xs. refl)
giveup_mild b is = absurd (cc is)

reply_mild : (x : ℕ) (g : Goal) (e : CallEnd) (m : Label) → IsMild (end_line x g e m)
reply_mild x (Run o) (Answered a) m = (refl, (λ xs. refl), λ xs. refl)
reply_mild x (calls.Include s) (Answered a) m = (refl, (λ xs. refl), λ xs. refl)
reply_mild x g (Included s) m = (refl, (λ xs. refl), λ xs. refl)
reply_mild x g (Conflict h k n) m = (refl, (λ xs. refl), λ xs. refl)
reply_mild x g (Changed n w) m = (refl, (λ xs. refl), λ xs. refl)
reply_mild x g (Lost n b) m = (refl, (λ xs. refl), λ xs. refl)

-- ---- an action that waits

-- what was asked last of the action isn't answered, and it is open
pub record IsLeft (A : List Asking) (lines : List Line) (d : Doing) (s : Steps) : Type 0 where
  pub one : count_asks A (name d.label) ≡ count_answers lines (name d.label) + 1
  pub asked : AskedOf
  pub last : last_asked (asks_by (accepted_of A) (name d.label)) ≡ Some asked
  pub goal : (l : Label) × (name l ≡ name d.label) × (asked.event ≡ asks_goal l s.x s.goal)
  pub opened : has_ended lines (name d.label) ≡ false

-- behind a line of what was given up
pub left_on : (A : List Asking) (lines : List Line) (d : Doing) (s : Steps) (e : ℕ) (b : Body) → is_giveup b ≡ true → IsLeft A lines d s →
    IsLeft A (lines ++ numbered e (b ∷ [])) d s
left_on A lines d s e b is h = record {
  one = h.one ∙ ap (λ xs. length xs + 1) (sym (answers_stay lines e (b ∷ []) (name d.label) (giveup_dumb b is, tt)));
  asked = h.asked;
  last = h.last;
  goal = h.goal;
  opened = mild_ended (record { event = e; body = b }) (giveup_mild b is) lines (name d.label) ∙ h.opened;
}

-- others asked more, or their commits were called
pub left_asked : (A B : List Asking) (lines : List Line) (d : Doing) (s : Steps) →
    asks_by (accepted_of B) (name d.label) ≡ asks_by (accepted_of A) (name d.label) → IsLeft A lines d s → IsLeft B lines d s
left_asked A B lines d s same h = record {
  one = ap length same ∙ h.one;
  asked = h.asked;
  last = ap last_asked same ∙ h.last;
  goal = h.goal;
  opened = h.opened;
}

module _ (A : List Asking) (lines : List Line) (d : Doing) (s : Steps) (h : IsLeft A lines d s) where
  -- by the journal it waits for that
  waits : waits_for (accepted_of A) lines (name d.label) ≡ Some h.asked.event
  waits = λ i. if h.opened i then None
      else option_map (λ (a : AskedOf). a.event) (one_left (accepted_of A) A (λ l. refl) lines (name d.label) h.asked h.one h.last i)

  -- and behind an answer for nothing
  module _ (n : ℕ) (g : CallEnd) where
    none_left : NoneWaits (accepted_of A) (lines ++ block n (end_line s.x s.goal g d.label ∷ [])) d.label
    none_left =
        let line = end_line s.x s.goal g d.label in
        let more : count_answers (lines ++ block n (line ∷ [])) (name d.label) ≡ count_answers lines (name d.label) + 1 =
        one_more lines n line
        (name d.label) (reply_line s.x s.goal g d.label (name d.label) ∙ (bytes_eq-Decides (name d.label) (name d.label)).1 refl) in
        (λ i. if (mild_ended (record { event = n; body = line }) (reply_mild s.x s.goal g d.label) lines (name d.label)
        ∙ h.opened) i then None
        else option_map (λ (a : AskedOf). a.event) (all_answered (accepted_of A) A (λ l. refl) (lines ++ block n (line ∷ [])) (name d.label)
        (more ∙ sym h.one) i))

    -- what it waits for
    asks_so : waits_for (accepted_of A) lines (name d.label) ≡ Some (asks_goal h.goal.0 s.x s.goal)
    asks_so = waits ∙ ap Some h.goal.2

  pub ends_it : (n : ℕ) (g : CallEnd) → FitsGoal s.goal g →
      EndsWait (accepted_of A) lines (lines ++ block n (end_line s.x s.goal g d.label ∷ [])) (end_line s.x s.goal g d.label)
  ends_it n g fits = by s.goal g fits (none_left n g) (asks_so n g)
    where
      some : (x : ℕ) (goal : Goal) → waits_for (accepted_of A) lines (name d.label) ≡ Some (asks_goal h.goal.0 x goal) →
          is_some (waits_for (accepted_of A) lines (name d.label)) ≡ true
      some x goal is = ap is_some is

      by : (goal : Goal) (g : CallEnd) → FitsGoal goal g →
          NoneWaits (accepted_of A) (lines ++ block n (end_line s.x goal g d.label ∷ [])) d.label →
          waits_for (accepted_of A) lines (name d.label) ≡ Some (asks_goal h.goal.0 s.x goal) →
          EndsWait (accepted_of A) lines (lines ++ block n (end_line s.x goal g d.label ∷ [])) (end_line s.x goal g d.label)
      by (Run o) (Answered a) fits none is = (subst (IsCallOf s.x o) (sym is) (refl, refl), none)
      by (calls.Include m) (Answered a) fits none is = (subst (IsIncludeOf s.x m) (sym is) (refl, refl), none)
      by (Run o) (Included st) fits none is = absurd (cc fits)
      by (calls.Include m) (Included st) fits none is = (subst (IsIncludeOf s.x m) (sym is) (refl, refl), none)
      by goal (Conflict u m k) fits none is = (some s.x goal is, none)
      by goal (Changed k w) fits none is = (some s.x goal is, none)
      by goal (Lost k sent) fits none is = (some s.x goal is, none)

-- ---- lines of an event

-- a line that answers nothing
pub mute_ends : (acc : List AskedOf) (lines behind : List Line) (b : Body) → is_reply b ≡ false → EndsWait acc lines behind b
mute_ends acc lines behind (body.Ok l x o a) is = absurd (cc is)
mute_ends acc lines behind (body.Includes l x n) is = absurd (cc is)
mute_ends acc lines behind (body.Conflict l u m n) is = absurd (cc is)
mute_ends acc lines behind (body.Lost l n) is = absurd (cc is)
mute_ends acc lines behind (body.Changed l n d) is = absurd (cc is)
mute_ends acc lines behind b is = tt

pub mute_all : (acc : List AskedOf) (lines : List Line) (n : ℕ) (bs : List Body) → NoReplies bs → EndWaits acc lines n bs
mute_all acc lines n [] all = tt
mute_all acc lines n (b ∷ bs) all =
    (mute_ends acc lines (lines ++ block n (b ∷ [])) b all.0, mute_all acc (lines ++ block n (b ∷ [])) n bs all.1)

pub ends_both : (acc : List AskedOf) (lines : List Line) (n : ℕ) (bs cs : List Body) → EndWaits acc lines n bs →
    EndWaits acc (lines ++ block n bs) n cs → EndWaits acc lines n (bs ++ cs)
ends_both acc lines n [] cs a b = subst (λ ls. EndWaits acc ls n cs) (append-nil lines) b
ends_both acc lines n (x ∷ bs) cs a b = (
  a.0,
  ends_both acc (lines ++ block n (x ∷ [])) n bs cs a.1 (subst (λ ls. EndWaits acc ls n cs)
      (sym (append_assoc lines (block n (x ∷ [])) (block n bs))) b),
)

-- only what was asked of each action matters
same_waits : (acc more : List AskedOf) → ((l : List ℕ) → asks_by more l ≡ asks_by acc l) → (lines : List Line) (l : List ℕ) →
    waits_for more lines l ≡ waits_for acc lines l
same_waits acc more same lines l = λ i. if has_ended lines l then None
    else option_map (λ (a : AskedOf). a.event) (if nat_lt (length (answers_to lines l)) (length (same l i))
    then last_asked (same l i) else None)

same_ends : (acc more : List AskedOf) → ((l : List ℕ) → asks_by more l ≡ asks_by acc l) → (lines behind : List Line) (b : Body) →
    EndsWait acc lines behind b → EndsWait more lines behind b
same_ends acc more same lines behind (body.Ok l x o a) h =
    (subst (IsCallOf x o) (sym (same_waits acc more same lines (name l))) h.0, same_waits acc more same behind (name l) ∙ h.1)
same_ends acc more same lines behind (body.Includes l x n) h =
    (subst (IsIncludeOf x n) (sym (same_waits acc more same lines (name l))) h.0, same_waits acc more same behind (name l) ∙ h.1)
same_ends acc more same lines behind (body.Conflict l u m n) h =
    (ap is_some (same_waits acc more same lines (name l)) ∙ h.0, same_waits acc more same behind (name l) ∙ h.1)
same_ends acc more same lines behind (body.Lost l n) h =
    (ap is_some (same_waits acc more same lines (name l)) ∙ h.0, same_waits acc more same behind (name l) ∙ h.1)
same_ends acc more same lines behind (body.Changed l n d) h =
    (ap is_some (same_waits acc more same lines (name l)) ∙ h.0, same_waits acc more same behind (name l) ∙ h.1)
same_ends acc more same lines behind b h = tt

pub same_all : (acc more : List AskedOf) → ((l : List ℕ) → asks_by more l ≡ asks_by acc l) → (lines : List Line) (n : ℕ) (bs : List Body) →
    EndWaits acc lines n bs → EndWaits more lines n bs
same_all acc more same lines n [] h = tt
same_all acc more same lines n (b ∷ bs) h = (
  same_ends acc more same lines (lines ++ block n (b ∷ [])) b h.0,
  same_all acc more same (lines ++ block n (b ∷ [])) n bs h.1,
)
