-- What standard error is told of an exit status (own).
use Rattle.std.specs.Prelude.{ℕ, ◌==◌, if◌then◌else◌, List, [], codes}

-- the line for an exit code
abbrev pub complaint : ℕ → List ℕ
complaint code =
    if code == 2 then codes "storyhost: these words aren't understood; see storyhost --help" else
    (if code == 3 then
    codes "storyhost: a story is refused; the line that was written says which, and why" else
    (if code == 4 then codes "storyhost: the input failed, or a file can't be read" else
    (if code == 5 then codes "storyhost: the output failed" else
    (if code == 6 then
    codes "storyhost: a file of the folder can't be opened, made, read or written" else
    (if code == 7 then codes "storyhost: there is too little memory" else
    (if code == 8 then
    codes "storyhost: what the folder holds is refused; the line that was written says why" else
    (if code == 9 then
    codes "storyhost: the port can't be served; another program may be using it" else
    (if code == 10 then
    codes "storyhost: the connection's limit of lines or bytes was reached" else []))))))))
