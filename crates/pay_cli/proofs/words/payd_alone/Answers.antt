use Rattle.std.proofs.Common.{ap, true}
use Rattle.clap.specs.Words.{App}
use Rattle.pay_cli.proofs.words.payd_alone.Goals as goal

abbrev versioned : App → App
versioned a = record a { top = record a.top { disable_help_subcommand = true; has_version = true } }

pub returns : goal.returns
returns c = record {
  app = rw (c.disable_help_subcommand.ensures, c.version.ensures, c.about.ensures) (ap versioned c.new.ensures.app);
  globals = rw (c.disable_help_subcommand.ensures, c.version.ensures, c.about.ensures) c.new.ensures.local;
}
