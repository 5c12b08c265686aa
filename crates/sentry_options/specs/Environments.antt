-- What variables of the environment set.
use Rattle.std.specs.Prelude.{◌≡◌, Some, Ok, List, ℕ, MatchOption}
use Rattle.std.specs.Result.{result_map_both}
use Rattle.sentry_options.specs.Options.{with_dsn}
use Rattle.sentry_options.specs.declared.clientoptions.ClientOptions.{ClientOptions}
use Rattle.sentry_options.specs.declared.clientoptions.choices.EventSamplingStrategy.TheVariants as events
use Rattle.sentry_options.specs.declared.clientoptions.choices.TracesSamplingStrategy.TheVariants as traces
use Rattle.sentry_texts.specs.DsnTexts.{dsn_of_text}
use Rattle.sentry_options.specs.Decimals.{rate_of}
use Rattle.sentry_options.specs.declared.environment.Variable.{Variable}
use Rattle.sentry_options.specs.declared.environment.Variable.TheVariants.{Dsn, Release, Environment, SampleRate, TracesSampleRate}

module _ {C : Type 0} where
  -- the variable with this text turns the old options into the new ones
  abbrev pub IsSetBy : Variable → List ℕ → ClientOptions C → ClientOptions C → Type 0
  IsSetBy Dsn text old new =
      result_map_both (λ dsn. with_dsn old (Some dsn)) (λ cause. cause) (dsn_of_text text) ≡ Ok new
  IsSetBy Release text old new = new ≡ record old { plain = record old.plain { release = Some text } }
  IsSetBy Environment text old new = new ≡ record old { plain = record old.plain { environment = Some text } }
  IsSetBy SampleRate text old new =
      MatchOption (rate_of text) ⊥ (λ rate. new ≡ record old {
        plain = record old.plain { event_sampling_strategy = events.FixedRate rate };
      })
  IsSetBy TracesSampleRate text old new =
      MatchOption (rate_of text) ⊥ (λ rate. new ≡ record old { traces_sampling_strategy = traces.FixedRate rate })
