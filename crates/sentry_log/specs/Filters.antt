-- What becomes of a record, by its level and its target.
use Rattle.std.specs.Prelude.{Bool, true, false, not, ◌||◌}
use Rattle.log.specs.declared.level.Level.{Level}
use Rattle.log.specs.declared.level.Level.TheVariants.{Error, Warn, Info, Debug, Trace}
use Rattle.sentry_log.specs.declared.filter.LogFilter.{LogFilter}
use Rattle.sentry_log.specs.declared.filter.Levels.{Levels}

-- nothing becomes of it
abbrev pub nothing : LogFilter
nothing = record { breadcrumb = false; event = false; log = false }

abbrev pub is_nothing : LogFilter → Bool
is_nothing becomes = not (becomes.breadcrumb || becomes.event || becomes.log)

-- errors are events and logs, warnings and infos are breadcrumbs and logs, and nothing becomes of the rest
abbrev pub default_levels : Levels
default_levels = record {
  error = record { breadcrumb = false; event = true; log = true };
  warn = record { breadcrumb = true; event = false; log = true };
  info = record { breadcrumb = true; event = false; log = true };
  debug = nothing;
  trace = nothing;
}

-- what becomes of a record of this level
abbrev pub at_level : Levels → Level → LogFilter
at_level levels Error = levels.error
at_level levels Warn = levels.warn
at_level levels Info = levels.info
at_level levels Debug = levels.debug
at_level levels Trace = levels.trace
