-- The version of the policy language that a document is written in, which its front matter names.
pub use Rattle.policy_ast.specs.declared.version.Version.{Version}
pub use Rattle.policy_ast.specs.declared.version.Version.TheVariants.{Two}
