-- Events behind events.
use Rattle.std.proofs.Common.{◌≡◌, ℕ, List, [], ◌∷◌, ◌++◌, sym, ◌∙◌, ap, subst, append_assoc, codes}
use Rattle.std.specs.Prelude.{map}
use Rattle.std.specs.List.{AllByRecursion}
use Rattle.std.specs.Fmt.{decimal}
use Rattle.std.proofs.lemmas.List.{append-nil, map-append}
use Rattle.arj_class.specs.declared.op.Op.TheVariants as op
use Rattle.arj_journal.specs.declared.event.Event.{Event}
use Rattle.arj_journal.specs.declared.event.Event.TheVariants as event
use Rattle.arj_journal.specs.ScriptForm.{EventInForm}
use Rattle.arj_journal.specs.ScriptText.{event_text}
use Rattle.arj_text.specs.declared.label.Label.{Label}
use Rattle.arj_text.specs.Label.{name}
use Rattle.arj_gen.specs.Bank.{tag}
use Rattle.arj_gen.specs.Grows.{SaysMore}

all_append : (a b : List Event) → AllByRecursion EventInForm a → AllByRecursion EventInForm b → AllByRecursion EventInForm (a ++ b)
all_append [] b first more = more
all_append (e ∷ a) b first more = (first.0, all_append a b first.1 more)

pub says_none : (a : List Event) → SaysMore a a []
says_none a = record { texts = sym (append-nil (map event_text a)); form = λ h. h }

pub says_one : (a : List Event) (b : List Event) (e : Event) (line : List ℕ) → b ≡ a ++ e ∷ [] → EventInForm e → event_text e ≡ line →
    SaysMore a b (line ∷ [])
says_one a b e line is form text = record {
  texts = ap (map event_text) is ∙ (map-append event_text a (e ∷ []) ∙ ap (λ l. map event_text a ++ l ∷ []) text);
  form = λ h. subst (AllByRecursion EventInForm) (sym is) (all_append a (e ∷ []) h (form, tt));
}

pub says_more : (a b c : List Event) (l m : List (List ℕ)) → SaysMore a b l → SaysMore b c m → SaysMore a c (l ++ m)
says_more a b c l m first more = record {
  texts = more.texts ∙ (ap (λ t. t ++ m) first.texts ∙ append_assoc (map event_text a) l m);
  form = λ h. more.form (first.form h);
}

-- the texts of a transfer's events
pub begin_says : (l : Label) (i n : ℕ) → name l ≡ tag i →
    event_text (event.Begin l n) ≡ codes "begin " ++ (tag i ++ (codes " at " ++ decimal n))
begin_says l i n is = ap (λ bytes. event_begin bytes n) is
  where
    event_begin : List ℕ → ℕ → List ℕ
    event_begin bytes n = (codes "begin" ++ (codes " " ++ bytes)) ++ (codes " at" ++ (codes " " ++ decimal n))

pub withdraw_says : (l : Label) (i x m : ℕ) → name l ≡ tag i →
    event_text (event.Call l x (op.Withdraw m)) ≡ codes "call " ++ (tag i ++ (codes " " ++ (decimal x ++ (codes " withdraw " ++ decimal m))))
withdraw_says l i x m is =
    ap (λ bytes. (codes "call" ++ (codes " " ++ bytes)) ++ ((codes " " ++ decimal x) ++ (codes " " ++ (codes "withdraw" ++ (codes " " ++ decimal m))))) is

pub deposit_says : (l : Label) (i x m : ℕ) → name l ≡ tag i →
    event_text (event.Call l x (op.Deposit m)) ≡ codes "call " ++ (tag i ++ (codes " " ++ (decimal x ++ (codes " deposit " ++ decimal m))))
deposit_says l i x m is =
    ap (λ bytes. (codes "call" ++ (codes " " ++ bytes)) ++ ((codes " " ++ decimal x) ++ (codes " " ++ (codes "deposit" ++ (codes " " ++ decimal m))))) is

pub commit_says : (l : Label) (i : ℕ) → name l ≡ tag i → event_text (event.Commit l) ≡ codes "commit " ++ tag i
commit_says l i is = ap (λ bytes. codes "commit" ++ (codes " " ++ bytes)) is

pub says_as : (a b : List Event) (x y : List ℕ) → x ≡ y → SaysMore a b (x ∷ []) → SaysMore a b (y ∷ [])
says_as a b x y is h = subst (λ l. SaysMore a b (l ∷ [])) is h
