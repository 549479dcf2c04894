-- The commands of the command line, as `clap` is told of them (own).
use Rattle.std.specs.Prelude.{Some, true, codes}
use Rattle.clap.specs.Simple.{App, new_app, new_rule, on_top, with_rule, with_subcommand}
use Rattle.clap.specs.Walk.{Rule, Text}
use Rattle.clap.specs.declared.builder.action.ArgAction.TheVariants.{Append}

-- an argument that has to be given, one that may be given more often, and one that may be given
-- behind its name
abbrev pub required_rule : Text → Rule
required_rule id = record (new_rule id) { required = true }

abbrev pub repeated_rule : Text → Rule
repeated_rule id = record (new_rule id) { required = true; action = Some Append }

abbrev pub named_rule : Text → Rule
named_rule id = record (new_rule id) { long = Some id }

-- FILE, and DIR
abbrev pub file_rule : Rule
file_rule = required_rule (codes "FILE")

abbrev pub folder_rule : Rule
folder_rule = required_rule (codes "DIR")

-- PORT, and WORKERS
abbrev pub port_rule : Rule
port_rule = required_rule (codes "PORT")

abbrev pub workers_rule : Rule
workers_rule = required_rule (codes "WORKERS")

-- OLD, and NEW
abbrev pub old_rule : Rule
old_rule = required_rule (codes "OLD")

abbrev pub new_folder_rule : Rule
new_folder_rule = required_rule (codes "NEW")

-- N
abbrev pub number_argument : Rule
number_argument = required_rule (codes "N")

-- STORY.., one or more
abbrev pub stories_rule : Rule
stories_rule = repeated_rule (codes "STORY")

-- `--budget N`
abbrev pub budget_rule : Rule
budget_rule = named_rule (codes "budget")

-- `--links K`
abbrev pub links_rule : Rule
links_rule = named_rule (codes "links")

-- `run FILE [--budget N]`
abbrev pub run_app : App
run_app = with_rule (with_rule (new_app (codes "run")) file_rule) budget_rule

-- `check FILE`
abbrev pub check_app : App
check_app = with_rule (new_app (codes "check")) file_rule

-- `init DIR`
abbrev pub init_app : App
init_app = with_rule (new_app (codes "init")) folder_rule

-- `pipe DIR STORY.. [--budget N]`
abbrev pub pipe_app : App
pipe_app =
    with_rule (with_rule (with_rule (new_app (codes "pipe")) folder_rule) stories_rule) budget_rule

-- `serve DIR PORT WORKERS`, without what follows
abbrev pub served_app : App
served_app =
    with_rule (with_rule (with_rule (new_app (codes "serve")) folder_rule) port_rule) workers_rule

-- `serve DIR PORT WORKERS STORY.. [--budget N] [--links K]`
abbrev pub serve_app : App
serve_app = with_rule (with_rule (with_rule served_app stories_rule) budget_rule) links_rule

-- `replay DIR STORY..`
abbrev pub replay_app : App
replay_app = with_rule (with_rule (new_app (codes "replay")) folder_rule) stories_rule

-- `pack OLD NEW`
abbrev pub pack_app : App
pack_app = with_rule (with_rule (new_app (codes "pack")) old_rule) new_folder_rule

-- `drill N`
abbrev pub drill_app : App
drill_app = with_rule (new_app (codes "drill")) number_argument

-- the program, with a version, which does nothing but by one of its commands
abbrev pub bare_app : App
bare_app = on_top (λ s. record s {
  no_binary_name = true;
  disable_help_subcommand = true;
  subcommand_required = true;
  has_version = true;
}) (new_app (codes "storyhost"))

-- with the commands over one story
abbrev pub solo_app : App
solo_app = with_subcommand (with_subcommand bare_app run_app.top) check_app.top

-- with these and the commands over a folder and one connection
abbrev pub folder_app : App
folder_app = with_subcommand (with_subcommand solo_app init_app.top) pipe_app.top

-- with these, and the command over links
abbrev pub host_app : App
host_app = with_subcommand folder_app serve_app.top

-- with these, and the commands over a journal that no host holds
abbrev pub journal_app : App
journal_app = with_subcommand (with_subcommand host_app replay_app.top) pack_app.top

-- `storyhost` with its commands
abbrev pub storyhost_app : App
storyhost_app = with_subcommand journal_app drill_app.top
