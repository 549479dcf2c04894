-- How `serve` is asked to serve (own).
use Rattle.std.specs.Prelude.{◌≡◌, ℕ, List, option_and_then, Option, None, Some, codes}
use Rattle.clap.specs.Walk.{Row, first_of}
use Rattle.command_words.specs.Numbers.{IsWorkerCount, links_given, port_of, workers_of}
use Rattle.command_words.specs.declared.words.Action.{Action}
use Rattle.command_words.specs.declared.words.Action.TheVariants.{Serve}
use Rattle.command_words.specs.declared.words.Serving.{Serving}

-- an action that serves links has 1 to 16 workers
abbrev pub HasWorkers : Action → Type 0
HasWorkers action =
    (serving : Serving) → action ≡ Serve serving → IsWorkerCount serving.workers

-- this port, so many workers, and so many links
abbrev pub serving_of : Option ℕ → Option ℕ → Option ℕ → Option Serving
serving_of None workers links = None
serving_of (Some port) None links = None
serving_of (Some port) (Some workers) None = None
serving_of (Some port) (Some workers) (Some links) =
    Some (record { port = port; workers = workers; links = links })

-- the port that is given
abbrev pub port_in : List Row → Option ℕ
port_in rows = option_and_then port_of (first_of (codes "PORT") rows)

-- the number of workers that is given
abbrev pub workers_in : List Row → Option ℕ
workers_in rows = option_and_then workers_of (first_of (codes "WORKERS") rows)

-- how links are to be served, by what is given
abbrev pub serving_in : List Row → Option Serving
serving_in rows =
    serving_of (port_in rows) (workers_in rows) (links_given (first_of (codes "links") rows))
