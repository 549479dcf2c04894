-- What `clap` has against the words of a command without a subcommand `help`: kinds that all ask
-- for the same.
use Rattle.std.proofs.Common.{◌≡◌, ℕ, suc, zero, inl, inr, List, [], ◌∷◌, Bool, true, false, not}
use Rattle.std.proofs.Common.{◌&&◌, if◌then◌else◌, refl, ap, ◌∙◌, Option, None, Some, find, is_some}
use Rattle.std.proofs.Common.{slice_get, codes}
use Rattle.std.specs.Option.{option_map_or}
use Rattle.std.specs.Str.{bytes_eq, chars}
use Rattle.clap.specs.Facts.{parser_of_value}
use Rattle.clap.specs.Faults.{count_fault, action_fault, use_fault, settle_fault, react_fault}
use Rattle.clap.specs.Faults.{option_fault, long_fault, short_fault, bundle_step_fault, flags_fault}
use Rattle.clap.specs.Faults.{flag_word_fault, other_fault, stray_fault, step_fault, turn_fault}
use Rattle.clap.specs.Faults.{walk_fault, defaults_fault, level_fault, entered_fault, built_fault}
use Rattle.clap.specs.Faults.{fault_of}
use Rattle.clap.specs.Kinds.{Kinds, IsAmong, or_else, values_kinds, request_kinds}
use Rattle.clap.specs.Simple.{App, Shape, argument_words, built, entered, label_of, names_of}
use Rattle.clap.specs.Walk.{answers_to, arg_by_long, settled, walk, walk_from, Held, Names, Row}
use Rattle.clap.specs.Walk.{Rule, Step, Text, Waiting, Walk, idle, value, walked, with_default}
use Rattle.clap.specs.Walk.{nothing_held, subcommand_met}
use Rattle.clap.specs.declared.builder.action.ArgAction.{ArgAction}
use Rattle.clap.specs.declared.builder.action.ArgAction.TheVariants as action
use Rattle.clap.specs.declared.builder.value_parser.ValueParser.{ValueParser}
use Rattle.clap.specs.declared.error.kind.ErrorKind.{ErrorKind}
use Rattle.clap.specs.declared.error.kind.ErrorKind.TheVariants as kind
use Rattle.command_words.specs.CommandLine.{storyhost_app}
use Rattle.command_words.specs.Help.{topic_of}
use Rattle.command_words.specs.Words.{asked_after, asked_alone, shown_by}
use Rattle.command_words.specs.declared.help.Topic.{Topic}
use Rattle.command_words.specs.declared.words.Action.{Action}

-- what the first of the kinds asks for
abbrev pub first_shown : Topic → Kinds → Option Action
first_shown topic [] = None
first_shown topic (kind ∷ kinds) = shown_by topic kind

-- each of the kinds asks for the same
pub record Alike (kinds : Kinds) : Type 0 where
  pub same : (topic : Topic) (one : ErrorKind)
      → IsAmong one kinds
      → shown_by topic one ≡ first_shown topic kinds

alike_none : Alike []
alike_none = record { same = λ topic one among. absurd among }

in_one : (k : ErrorKind) (topic : Topic) (one : ErrorKind)
    → IsAmong one (k ∷ [])
    → shown_by topic one ≡ shown_by topic k
in_one k topic one (inl e) = ap (shown_by topic) e
in_one k topic one (inr none) = absurd none

alike_one : (k : ErrorKind) → Alike (k ∷ [])
alike_one k = record { same = in_one k }

alike_or : (a b : Kinds) → Alike a → Alike b → Alike (or_else a b)
alike_or [] b p q = q
alike_or (k ∷ ks) b p q = p

alike_if : (t : Bool) (a b : Kinds) → Alike a → Alike b → Alike (if t then a else b)
alike_if true a b p q = p
alike_if false a b p q = q

alike_option : {X : Type 0} (f : X → Kinds) (o : Option X) (e : Kinds)
    → ((x : X) → Alike (f x)) → Alike e
    → Alike (option_map_or f o e)
alike_option f None e p q = q
alike_option f (Some x) e p q = p x

ruleset alike = (alike_none, alike_one, alike_or, alike_if, alike_option)

-- one use of an argument
alike_values : (ignore_case : Bool) (parser : ValueParser) (values : List Text)
    → Alike (values_kinds ignore_case parser values)
alike_values ignore_case parser [] = alike_none
alike_values ignore_case parser (v ∷ vs) =
    alike_or _ _ (search alike) (alike_values ignore_case parser vs)

alike_count : (a : Rule) (values : List Text) (rows : List Row) → Alike (count_fault a values rows)
alike_count a [] rows = search alike
alike_count a (v ∷ vs) rows = alike_values a.ignore_case (parser_of_value a.parser) (v ∷ vs)

alike_request : (act : ArgAction) → Alike (request_kinds act)
alike_request action.Set = alike_none
alike_request other = search alike

alike_action : (act : ArgAction) (again : Bool) (a : Rule) (values : List Text) (rows : List Row)
    → Alike (action_fault act again a values rows)
alike_action action.Count again a values rows = alike_count a values rows
alike_action action.Set again a values rows = search (alike, alike_values)
alike_action action.SetTrue again a values rows = search (alike, alike_values)
alike_action action.SetFalse again a values rows = search (alike, alike_values)
alike_action action.Append again a values rows = alike_values _ _ values
alike_action other again a values rows = alike_request other

alike_use : (again : Bool) (a : Rule) (values : List Text) (rows : List Row)
    → Alike (use_fault again a values rows)
alike_use again a values rows = search (alike, alike_action) depth 7

-- the walk
alike_settle : (c : List Rule) (again : Bool) (h : Held) → Alike (settle_fault c again h)
alike_settle c again h = search (alike, alike_use)

alike_react : (c : List Rule) (again : Bool) (a : Rule) (values : List Text) (h : Held)
    → Alike (react_fault c again a values h)
alike_react c again a values h = search (alike, alike_settle, alike_use)

alike_option_met : (c : List Rule) (again : Bool) (a : Rule) (v : Option Text) (h : Held)
    → Alike (option_fault c again a v h)
alike_option_met c again a None h = alike_settle c again h
alike_option_met c again a (Some v) h = alike_react c again a (v ∷ []) h

alike_long : (c : List Rule) (again : Bool) (o : Option Rule) (v : Option Text) (h : Held)
    → Alike (long_fault c again o v h)
alike_long c again None v h = alike_one _
alike_long c again (Some a) v h = search (alike, alike_option_met, alike_react)

alike_short : (c : List Rule) (again : Bool) (o : Option Rule) (rest : Text) (h : Held)
    (more : Held → Kinds)
    → ((k : Held) → Alike (more k))
    → Alike (short_fault c again o rest h more)
alike_short c again None rest h more p = alike_one _
alike_short c again (Some a) rest h more p = search (alike, alike_option_met, alike_react, p)

alike_bundle_step : (c : List Rule) (again : Bool) (o : Option ℕ) (flags : Text)
    (skip : ℕ) (h : Held) (more : Text → ℕ → Held → Kinds)
    → ((t : Text) (n : ℕ) (k : Held) → Alike (more t n k))
    → Alike (bundle_step_fault c again o flags skip h more)
alike_bundle_step c again None flags skip h more p = alike_none
alike_bundle_step c again (Some x) flags zero h more p = search (alike_short, p)
alike_bundle_step c again (Some x) flags (suc skip) h more p = p _ skip h

alike_flags : (c : List Rule) (again : Bool) (k : ℕ) (flags : Text) (skip : ℕ) (h : Held)
    → Alike (flags_fault c again k flags skip h)
unfolding flags_fault
alike_flags c again zero flags skip h = alike_none
alike_flags c again (suc k) flags skip h =
    alike_bundle_step c again (slice_get (chars flags) 0) flags skip h (flags_fault c again k)
    (alike_flags c again k)

alike_flag_word : (c : List Rule) (again : Bool) (o : Option (Text × Option Text))
    (word : Text) (h : Held)
    → Alike (flag_word_fault c again o word h)
alike_flag_word c again (Some p) word h = alike_long c again (arg_by_long c p.0) p.1 h
alike_flag_word c again None word h = search (alike, alike_flags)

-- no word is a subcommand `help`
no_help : (named off : Bool) (kinds : Kinds)
    → off ≡ true
    → Alike (if named && not off then kinds else [])
no_help true true kinds e = alike_none
no_help true false kinds e = cc
no_help false off kinds e = alike_none

alike_no_name : (s : Shape) (word : Text) (h : Held) → Alike (other_fault s None word h)
alike_no_name s word h = search (alike, alike_flag_word)

alike_other : (s : Shape) (name : Option Text) (word : Text) (h : Held)
    → s.disable_help_subcommand ≡ true
    → Alike (other_fault s name word h)
alike_other s (Some name) word h off =
    no_help (bytes_eq name (codes "help")) s.disable_help_subcommand _ off
alike_other s None word h off = alike_no_name s word h

abbrev HasNoHelp : Shape → Names → Type 0
HasNoHelp s names =
    (waiting : Waiting) (word : Text) (h : Held)
    → Alike (other_fault s (subcommand_met names waiting word) word h)

above : (s : Shape) (names : Names) → s.disable_help_subcommand ≡ true → HasNoHelp s names
above s names off waiting word h = alike_other s (subcommand_met names waiting word) word h off

leaf : (s : Shape) → HasNoHelp s []
leaf s idle word h = alike_no_name s word h
leaf s other word h = alike_no_name s word h

in_stray : (topic : Topic) (one : ErrorKind)
    → IsAmong one (kind.UnknownArgument ∷ kind.InvalidSubcommand ∷ [])
    → shown_by topic one ≡ None
in_stray topic one (inl e) = ap (shown_by topic) e
in_stray topic one (inr (inl e)) = ap (shown_by topic) e
in_stray topic one (inr (inr none)) = absurd none

alike_stray : (s : Shape) → Alike (stray_fault s)
alike_stray s = alike_if s.is_leaf _ _ (alike_one _) (record { same = in_stray })

alike_step : (s : Shape) (position : ℕ) (h : Held) (step : Step)
    → Alike (step_fault s position h step)
alike_step s position h value = search (alike, alike_settle, alike_stray)
alike_step s position h other = alike_none

alike_turn : (s : Shape) (names : Names) (w : Walk) (word : Text)
    → HasNoHelp s names → Alike (turn_fault s names w word)
alike_turn s names w word q = search (alike, q, alike_step)

alike_walk : (s : Shape) (names : Names) (w : Walk) (words : List Text)
    → HasNoHelp s names → Alike (walk_fault s names w words)
unfolding walk_fault
alike_walk s names w [] q = alike_none
alike_walk s names w (word ∷ rest) q =
    alike_or _ _ (alike_turn s names w word q)
    (alike_walk s names (walked s.rules names w word) rest q)

-- after the walk
alike_defaults : (rules : List Rule) (rows : List Row) → Alike (defaults_fault rows rules)
unfolding defaults_fault
alike_defaults [] rows = alike_none
alike_defaults (a ∷ rest) rows =
    alike_or _ _ (search (alike, alike_request, alike_values))
    (alike_defaults rest (with_default rows a))

alike_level : (s : Shape) (names : Names) (h : Held) (words : List Text)
    (has_subcommand : Bool) (below : Kinds)
    → HasNoHelp s names
    → Alike below → Alike (level_fault s names h words has_subcommand below)
alike_level s names h words has_subcommand below q p =
    let end = (walk s.rules names h words).held in
    alike_or _ _ (alike_walk s names (walk_from h) words q)
    (alike_or _ _ p (alike_or _ _ (alike_settle s.rules s.args_override_self end)
    (alike_or _ _ (alike_defaults s.rules (settled s.rules end).rows) (search alike))))

alike_entered : (a : App) (stop : Option (Text × List Text)) → Alike (entered_fault a stop)
alike_entered a stop =
    alike_option _ stop [] (λ p. alike_option (λ s. level_fault s [] nothing_held p.1 false [])
    (find (λ s. answers_to p.0 (label_of s)) a.subs) []
    (λ s. alike_level s [] nothing_held p.1 false [] (leaf s) alike_none) alike_none) alike_none

alike_built : (a : App) (h : Held) (words : List Text)
    → a.top.disable_help_subcommand ≡ true
    → Alike (built_fault a h words)
alike_built a h words off =
    let stop = (walk a.top.rules (names_of a) h words).stopped in
    alike_level a.top (names_of a) h words (is_some (entered a stop)) (entered_fault a stop)
    (above a.top (names_of a) off) (alike_entered a stop)

pub alike_faults : (words : List Text) → Alike (fault_of storyhost_app words)
alike_faults words =
    alike_built (built storyhost_app) nothing_held (argument_words storyhost_app words) refl

-- what words ask for that `clap` has something against
pub asked_shown : (kinds : Kinds) (words : List Text) (topic : Topic) (one : ErrorKind)
    → Alike kinds → IsAmong one kinds → topic ≡ topic_of words
    → asked_alone (shown_by topic one) ≡ asked_after kinds words
asked_shown [] words topic one alike among e = absurd among
asked_shown (k ∷ ks) words topic one alike among e =
    ap (λ (t : Topic). asked_alone (shown_by t one)) e
    ∙ ap asked_alone (alike.same (topic_of words) one among)
