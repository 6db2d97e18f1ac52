-- The names of commands.
use Rattle.std.specs.Prelude.{ℕ, List, Option, None, Some, codes, if◌then◌else◌}
use Rattle.std.specs.Str.{bytes_eq}
use Rattle.session_text.specs.declared.names.Name.{Name}
use Rattle.session_text.specs.declared.names.Name.TheVariants as name

abbrev pub name_text : Name → List ℕ
name_text name.Put = codes "put"
name_text name.Get = codes "get"
name_text name.Info = codes "info"
name_text name.Delete = codes "del"
name_text name.Cancel = codes "cancel"
name_text name.Wait = codes "wait"
name_text name.Drain = codes "drain"
name_text name.Undrain = codes "undrain"
name_text name.Stop = codes "stop"
name_text name.Restart = codes "restart"
name_text name.Pull = codes "pull"
name_text name.Compact = codes "compact"
name_text name.Level = codes "level"
name_text name.End = codes "end"

-- the name that a word is
abbrev pub name_at : List ℕ → Option Name
name_at word =
    if bytes_eq word (codes "put") then Some name.Put
    else (if bytes_eq word (codes "get") then Some name.Get
    else (if bytes_eq word (codes "info") then Some name.Info
    else (if bytes_eq word (codes "del") then Some name.Delete
    else (if bytes_eq word (codes "cancel") then Some name.Cancel
    else (if bytes_eq word (codes "wait") then Some name.Wait
    else (if bytes_eq word (codes "drain") then Some name.Drain
    else (if bytes_eq word (codes "undrain") then Some name.Undrain
    else (if bytes_eq word (codes "stop") then Some name.Stop
    else (if bytes_eq word (codes "restart") then Some name.Restart
    else (if bytes_eq word (codes "pull") then Some name.Pull
    else (if bytes_eq word (codes "compact") then Some name.Compact
    else (if bytes_eq word (codes "level") then Some name.Level
    else (if bytes_eq word (codes "end") then Some name.End
    else None)))))))))))))
